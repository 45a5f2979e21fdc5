use Rattle.std.specs.Prelude.{count_ones}
use Rattle.mv_cover.proofs.WideMarks.{Finds}
use Rattle.mv_cover.proofs.wide.remainders_of_set.Given as goal

abbrev pub invariant-loop-value : goal.invariant-loop-value
invariant-loop-value l = Finds l.fn.set l.found l.rest

abbrev pub decreases-loop-value : goal.decreases-loop-value
decreases-loop-value l = count_ones l.rest
