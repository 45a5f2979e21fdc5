-- The table reads only nets before d.
use Rattle.std.proofs.Common.{◌≡◌, ◌∙◌, false, List, All, sym, ap, subst, arith}
use Rattle.std.specs.List.{list_all}
use Rattle.mv_cover.specs.Literal.{Lit}
use Rattle.mv_graph.specs.Nets.{has_id}
use Rattle.mv_extract.proofs.Skipping.{let_be}
use Rattle.mv_cover.specs.declared.line.Line.{Line}
use Rattle.mv_divide.specs.Grouped.{AreBelow}
use Rattle.mv_extract.proofs.dividing.rule_for.Goals as goal

pub divided_lines-requires-clause-below : goal.divided_lines-requires-clause-below
divided_lines-requires-clause-below c =
    let table = sym (rw c.in-Some.is at c.table.ensures) in
    subst (λ (ls : List Line). All (λ (l : Line). AreBelow c.args.d l.cube) ls) (sym c.as_slice.ensures)
    (c.divide_law.ensures.below c.in-Some.table.now c.args.d (λ m reads. c.requires.ready.below c.args.n.0 c.in-Some.table.now (omega arith) c.requires.other table m reads))

pub returns-then-not-reads_each : goal.returns-then-not-reads_each
returns-then-not-reads_each c =
    let first = c.index-divisor-0.result in
    let off : list_all (λ (l : Lit). has_id c.fanins.result.now l.net.0) first ≡ false =
    sym (ap (list_all (λ (l : Lit). has_id c.fanins.result.now l.net.0)) c.lits.ensures.lits) ∙ (sym c.reads_each.ensures ∙ c.if-not-reads_each.true) in
    let_be c.args.net.now.nets c.args.n.0 c.fanins.result.now c.args.divisor.now first c.fanins.ensures (0, c.requires.ready.some, sym c.index-divisor-0.is) off
