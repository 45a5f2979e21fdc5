-- The values behind the place are the last.
use Rattle.std.proofs.Common.{◌≡◌, ℕ, ◌+◌, ◌<◌, ◌≤◌}
use Rattle.std.specs.Prelude.{slice_index}
use Rattle.mv_verify.specs.Sides.{count_at}
use Rattle.mv_verify.proofs.prefixes.next_values.Given as goal

abbrev pub invariant-loop-place : goal.invariant-loop-place
invariant-loop-place l = record {
  low : l.place ≤ l.end;
  same : l.values ≡ l.initial.values;
  last : (k : ℕ) → l.place ≤ k → k < l.end → count_at l.side k ≤ slice_index l.values k + 1;
}

abbrev pub decreases-loop-place : goal.decreases-loop-place
decreases-loop-place l = l.place
