use Rattle.std.proofs.Common.{◌≡◌, ◌<◌, ℕ, length}
use Rattle.std.specs.Prelude.{slice_index}
use Rattle.mv_solve.proofs.way.start_once.Given as goal

abbrev pub invariant-loop-place : goal.invariant-loop-place
invariant-loop-place l = record {
  long : length l.starts ≡ length l.initial.starts;
  zero : (p : ℕ) → p < l.place → slice_index l.starts p ≡ 0;
}
