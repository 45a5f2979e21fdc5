use Rattle.std.proofs.Common.{◌≤◌, length, take}
use Rattle.mv_base.specs.declared.limits.TheConstants.{MAX_JOINT_ROWS}
use Rattle.mv_joint.specs.Split.{all_rows}
use Rattle.mv_joint.specs.Plain.{said}
use Rattle.mv_joint.specs.Gather.{IsGathered}
use Rattle.mv_joint.proofs.plain.said_rows.Given as goal

abbrev pub invariant-loop-row : goal.invariant-loop-row
invariant-loop-row l = record {
  gathered : IsGathered (said (all_rows l.frame.columns (take l.row-index l.table.rows))) l.gathered;
  few : length l.gathered.outs.keys ≤ MAX_JOINT_ROWS;
}
