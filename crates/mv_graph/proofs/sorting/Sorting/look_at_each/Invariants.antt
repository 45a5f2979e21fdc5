use Rattle.mv_graph.specs.Sorting.{ArePlaced}
use Rattle.mv_graph.proofs.sorting.Sorting.look_at_each.Given as goal

abbrev pub invariant-loop-number : goal.invariant-loop-number
invariant-loop-number l = ArePlaced l.columns l.self 0 l.number
