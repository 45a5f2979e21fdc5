-- What comes before the first values is passed.
use Rattle.std.proofs.Common.{◌≡◌, ◌≤◌, length}
use Rattle.std.specs.Prelude.{slice_index}
use Rattle.mv_verify.proofs.Passing.{IsPassed}
use Rattle.mv_verify.proofs.Advancing.{AreBelow, to_go}
use Rattle.mv_verify.proofs.prefixes.find_difference.Given as goal

abbrev pub invariant-loop-values : goal.invariant-loop-values
invariant-loop-values l = record {
  inside : l.end ≤ length l.values;
  left : l.left ≡ l.fn.left;
  right : l.right ≡ l.fn.right;
  small : AreBelow 65536 l.end (slice_index l.values);
  passed : IsPassed l.free l.left l.right l.points (length l.values) l.end (slice_index l.values);
}

abbrev pub decreases-loop-values : goal.decreases-loop-values
decreases-loop-values l = to_go 65536 (length l.values) (slice_index l.values) l.end
