use Rattle.std.proofs.Common.{◌≡◌, drop}
use Rattle.mv_acyclic.specs.Alone.{least_from}
use Rattle.mv_acyclic.proofs.alone.least_of.Given as goal

abbrev pub invariant-loop-net : goal.invariant-loop-net
invariant-loop-net l = least_from l.above l.least (drop l.net-index l.nets) ≡ least_from l.above l.fn.first l.nets
