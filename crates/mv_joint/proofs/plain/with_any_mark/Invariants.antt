use Rattle.std.proofs.Common.{◌≡◌, map}
use Rattle.mv_joint.specs.Plain.{with_any_mark}
use Rattle.mv_joint.proofs.plain.with_any_mark.Given as goal

abbrev pub invariant-loop-row : goal.invariant-loop-row
invariant-loop-row l = l.all ≡ map with_any_mark l.yielded
