use Rattle.std.proofs.Common.{◌≡◌, ◌<◌, ℕ, false, length}
use Rattle.mv_solve.specs.Marks.{is_marked}
use Rattle.mv_solve.proofs.marks.clear.Given as goal

abbrev pub invariant-loop-at : goal.invariant-loop-at
invariant-loop-at l = record {
  long : length l.marks ≡ length l.initial.marks;
  none : (m : ℕ) → m < l.at → is_marked l.marks m ≡ false;
}
