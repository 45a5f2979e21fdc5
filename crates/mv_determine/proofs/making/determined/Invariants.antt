-- So the lines stand after those so far.
use Rattle.mv_determine.proofs.Growing.{IsGrown}
use Rattle.mv_determine.proofs.making.determined.Given as goal

abbrev pub invariant-loop-place : goal.invariant-loop-place
invariant-loop-place l = IsGrown l.counts l.old l.place l.lines
