-- The first greatest number of those so far.
use Rattle.std.proofs.Common.{ℕ, ◌<◌, ◌≤◌, length, slice_index}
use Rattle.mv_default.proofs.costly.first_greatest.Given as goal

abbrev pub invariant-loop-place : goal.invariant-loop-place
invariant-loop-place l = record {
  there : l.best < length l.sums;
  most : (u : ℕ) → u < l.place → slice_index l.sums u ≤ slice_index l.sums l.best;
  first : (u : ℕ) → u < l.best → slice_index l.sums u < slice_index l.sums l.best;
}
