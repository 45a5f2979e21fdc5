use Rattle.mv_solve.specs.Known.{IsKnown}
use Rattle.mv_solve.proofs.spread.spread.Given as goal

abbrev pub invariant-loop : goal.invariant-loop
invariant-loop l = IsKnown l.net.nets l.asked l.known
