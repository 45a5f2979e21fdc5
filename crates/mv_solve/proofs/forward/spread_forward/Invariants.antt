use Rattle.mv_solve.specs.Known.{IsKnown}
use Rattle.mv_solve.proofs.forward.spread_forward.Given as goal

abbrev pub invariant-loop-n : goal.invariant-loop-n
invariant-loop-n l = IsKnown l.net.nets l.initial.known l.known
