use Rattle.std.proofs.Common.{◌≡◌, take}
use Rattle.mv_joint.specs.Joint.{output_rows}
use Rattle.mv_joint.proofs.joint.output_rows.Given as goal

abbrev pub invariant-loop-value : goal.invariant-loop-value
invariant-loop-value l = l.rows ≡ output_rows l.output 0 (take l.value l.all)
