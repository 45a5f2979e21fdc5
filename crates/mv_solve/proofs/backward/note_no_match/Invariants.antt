use Rattle.mv_solve.specs.Known.{IsKnown}
use Rattle.mv_solve.proofs.backward.note_no_match.Given as goal

abbrev pub invariant-loop-line : goal.invariant-loop-line
invariant-loop-line l = IsKnown l.net.nets l.initial.known l.known
