-- The line has no fault, so its nets had no other values.
use Rattle.std.proofs.Common.{◌≡◌, ◌∙◌, [], ap, sym}
use Rattle.mv_design.specs.Values.{values_of}
use Rattle.mv_decl.specs.Line.{redeclared_faults}
use Rattle.mv_decl.proofs.Said.{said_line, kept_line}
use Rattle.mv_decl.proofs.line.declare_nets.Goals as goal

pub returns-clause-said : goal.returns-clause-said
returns-clause-said c net e =
    let ds = c.args.decls.now in
    let values = c.args.values.now in
    let nets = c.args.nets.now in
    let none : redeclared_faults c.args.line ds values nets ≡ [] = ap (λ v. redeclared_faults c.args.line ds v nets) (sym c.as_slice.ensures) ∙ c.in_ok-check_known.ensures in
    ap (λ x. values_of x net) c.in_ok-declare_all.ensures.ok ∙ said_line c.args.line ds values nets net none e

pub returns-clause-kept : goal.returns-clause-kept
returns-clause-kept c net e =
    ap (λ x. values_of x net) c.in_ok-declare_all.ensures.ok ∙ kept_line c.args.nets.now c.args.values.now c.args.decls.now net e
