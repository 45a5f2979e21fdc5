use Rattle.std.proofs.Common.{◌≡◌, take, map}
use Rattle.mv_joint.specs.Joint.{choice_row}
use Rattle.mv_joint.proofs.joint.choice_table.Given as goal

abbrev pub invariant-loop-row : goal.invariant-loop-row
invariant-loop-row l = l.rows ≡ map (choice_row l.found.choices.keys) (take l.row-index l.found.rows)
