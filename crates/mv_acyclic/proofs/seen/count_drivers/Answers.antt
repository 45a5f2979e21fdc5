-- What is counted are the drivers.
use Rattle.std.proofs.Common.{List, ◌≤◌, ◌+◌, length, sym, ◌∙◌, ap, subst}
use Rattle.std.specs.List.{flat_map}
use Rattle.std.proofs.lemmas.List.{take_all}
use Rattle.mv_design.specs.declared.table.FileTable.{FileTable}
use Rattle.mv_design.specs.Nets.{nets_driven}
use Rattle.mv_acyclic.proofs.Apart.{length-drivers}
use Rattle.mv_acyclic.proofs.seen.count_drivers.Goals as goal

pub returns : goal.returns
returns c =
    let m = c.args.model.now in
    let i = c.loop-table.table-index in
    let end = subst (λ (ts : List FileTable). length ts ≤ i) c.as_slice-table-items.ensures c.loop-table-test.false in
    c.loop-table.invariant
    ∙ (ap (λ ts. length m.inputs + length m.latches + length (flat_map nets_driven ts)) (take_all i m.tables end) ∙ sym (length-drivers m))
