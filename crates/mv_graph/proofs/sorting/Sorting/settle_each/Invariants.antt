use Rattle.std.proofs.Common.{◌-◌, ◌^◌, length}
use Rattle.mv_graph.specs.Sorting.{ArePlaced}
use Rattle.mv_graph.proofs.sorting.Sorting.settle_each.Given as goal

abbrev pub invariant-loop-place : goal.invariant-loop-place
invariant-loop-place l = ArePlaced l.columns l.self l.place (length l.columns)

abbrev pub decreases-loop-place : goal.decreases-loop-place
decreases-loop-place l = 2 ^ 64 - l.place
