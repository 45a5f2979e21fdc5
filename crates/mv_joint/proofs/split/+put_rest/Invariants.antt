use Rattle.std.proofs.Common.{◌≤◌, length}
use Rattle.mv_base.specs.declared.limits.TheConstants.{MAX_JOINT_ROWS}
use Rattle.mv_joint.specs.Gather.{Gathers}
use Rattle.mv_joint.proofs.Resting.{rests_below}
use Rattle.mv_joint.proofs.split.+put_rest.Given as goal

abbrev pub decreases-put_rest : goal.decreases-put_rest
decreases-put_rest l = length l.entries.now

abbrev pub invariant-loop-value : goal.invariant-loop-value
invariant-loop-value l = record {
  gathers : Gathers (rests_below l.frame.columns l.rest l.place l.row l.value) l.fn.gathered l.gathered;
  few : length l.gathered.outs.keys ≤ MAX_JOINT_ROWS;
}
