-- The sharps of the cubes so far.
use Rattle.mv_determine.proofs.Cutting.{AreSharps}
use Rattle.mv_determine.proofs.behind.sharps.Given as goal

abbrev pub invariant-loop-cube : goal.invariant-loop-cube
invariant-loop-cube l = AreSharps l.counts l.other l.cubes l.cube-index l.left.items
