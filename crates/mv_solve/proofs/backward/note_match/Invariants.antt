use Rattle.mv_solve.specs.Known.{IsKnown}
use Rattle.mv_solve.proofs.backward.note_match.Given as goal

abbrev pub invariant-loop-literal : goal.invariant-loop-literal
invariant-loop-literal l = IsKnown l.net.nets l.initial.known l.known
