-- What lies outside the lines so far.
use Rattle.mv_determine.proofs.Cutting.{Beyond}
use Rattle.mv_determine.proofs.behind.cubes_outside.Given as goal

abbrev pub invariant-loop-line : goal.invariant-loop-line
invariant-loop-line l = Beyond l.counts l.lines l.cube l.line-index l.cubes.items
