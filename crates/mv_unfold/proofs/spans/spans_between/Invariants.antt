use Rattle.mv_unfold.proofs.Between.{IsCutTo}
use Rattle.mv_unfold.proofs.spans.spans_between.Given as goal

abbrev pub invariant-loop-stop : goal.invariant-loop-stop
invariant-loop-stop l = IsCutTo l.stops l.count l.spans l.stop-index l.start
