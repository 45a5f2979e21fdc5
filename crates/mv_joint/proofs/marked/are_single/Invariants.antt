use Rattle.std.proofs.Common.{◌≡◌, take, true}
use Rattle.std.specs.List.{list_all}
use Rattle.mv_joint.specs.Looks.{is_single}
use Rattle.mv_joint.proofs.marked.are_single.Given as goal

abbrev pub invariant-loop-entry : goal.invariant-loop-entry
invariant-loop-entry l = list_all (is_single l.columns) (take l.entry-index l.entries) ≡ true
