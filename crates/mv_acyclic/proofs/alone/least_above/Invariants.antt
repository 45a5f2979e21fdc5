use Rattle.mv_acyclic.proofs.Least.{AreDone}
use Rattle.mv_acyclic.proofs.alone.least_above.Given as goal

abbrev pub invariant-loop-net : goal.invariant-loop-net
invariant-loop-net l = AreDone l.columns l.low l.high l.order l.net-index l.above.items
