use Rattle.mv_cover.proofs.Covering.{literals_of_cubes}
use Rattle.mv_cover.proofs.ValueClasses.{Settled}
use Rattle.mv_cover.proofs.covers.+covers.Given as goal

abbrev pub decreases-covers : goal.decreases-covers
decreases-covers l = literals_of_cubes l.cubes.now

abbrev pub invariant-loop-value : goal.invariant-loop-value
invariant-loop-value l = Settled l.counts l.cubes l.net.0 l.value l.settled
