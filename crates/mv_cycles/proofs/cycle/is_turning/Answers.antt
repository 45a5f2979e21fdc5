-- The ranks of the net's columns, and the net's mark among those of the nets above it.
use Rattle.std.proofs.Common.{◌∙◌, List, ap, subst}
use Rattle.mv_base.specs.declared.number.NetId.{NetId}
use Rattle.mv_graph.specs.Marks.{is_marked}
use Rattle.mv_cycles.specs.Ranks.{AreLower}
use Rattle.mv_cycles.proofs.Ranks.{lower_not_above}
use Rattle.mv_cycles.proofs.Walks.{marks_tell}
use Rattle.mv_cycles.proofs.cycle.is_turning.Goals as goal

pub returns-then-are_lower : goal.returns-then-are_lower
returns-then-are_lower c =
    let P : List NetId → Type 0 = λ nets. AreLower c.args.ranks.now nets c.args.net.0 in
    lower_not_above c.args.columns.now c.args.ranks.now c.args.net.0 c.requires.ranks (subst P c.row_of.ensures (c.are_lower.ensures.0 c.if-are_lower.true))

pub returns : goal.returns
returns c = marks_tell c.args.columns.now c.args.net.0 c.in_ok-marks.marks.items _ c.in_ok-marks.ensures (c.has_mark.ensures ∙ ap (λ ms. is_marked ms c.args.net.0) c.as_slice.ensures.value)
