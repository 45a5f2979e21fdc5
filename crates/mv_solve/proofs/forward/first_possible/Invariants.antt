use Rattle.mv_solve.proofs.Spreading.{IsPassed}
use Rattle.mv_solve.proofs.forward.first_possible.Given as goal

abbrev pub invariant-loop-line : goal.invariant-loop-line
invariant-loop-line l = IsPassed l.known l.line-items l.line-index l.start l.end l.first l.some_match
