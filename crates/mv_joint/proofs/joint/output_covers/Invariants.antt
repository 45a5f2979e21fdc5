use Rattle.std.proofs.Common.{◌≡◌, length}
use Rattle.mv_joint.specs.Joint.{AreOutputs}
use Rattle.mv_joint.proofs.joint.output_covers.Given as goal

abbrev pub invariant-loop-output : goal.invariant-loop-output
invariant-loop-output l = record {
  many : length l.covers ≡ l.output;
  each : AreOutputs l.all l.mark l.column.net 0 l.covers;
}
