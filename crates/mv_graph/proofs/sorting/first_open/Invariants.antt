use Rattle.std.proofs.Common.{ℕ, ◌<◌, ◌≤◌}
use Rattle.std.specs.Prelude.{slice_index}
use Rattle.mv_graph.specs.Sorting.{net_at}
use Rattle.mv_graph.proofs.sorting.first_open.Given as goal

abbrev pub invariant-loop-place : goal.invariant-loop-place
invariant-loop-place l = (k : ℕ) → l.start ≤ k → k < l.place → 0 < slice_index l.ranks (net_at l.nets k)
