use Rattle.mv_flex.specs.Places.{IsUnderWay}
use Rattle.mv_flex.proofs.left.lines_matching.Given as goal

abbrev pub invariant-loop-line : goal.invariant-loop-line
invariant-loop-line l = IsUnderWay l.nets l.places l.lines l.left l.counts.items l.line-index
