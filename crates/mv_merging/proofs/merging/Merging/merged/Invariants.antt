use Rattle.std.proofs.Common.{◌≡◌, count_ones}
use Rattle.mv_base.specs.Set.{join}
use Rattle.mv_merging.specs.Values.{merged_set}
use Rattle.mv_merging.proofs.merging.Merging.merged.Given as goal

abbrev pub invariant-loop-value : goal.invariant-loop-value
invariant-loop-value l = join l.all (merged_set l.fn.self l.rest) ≡ merged_set l.fn.self l.fn.old

abbrev pub decreases-loop-value : goal.decreases-loop-value
decreases-loop-value l = count_ones l.rest
