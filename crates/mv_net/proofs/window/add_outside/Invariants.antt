use Rattle.std.proofs.Common.{◌≡◌, ◌++◌, not, filter, take}
use Rattle.mv_base.specs.declared.number.NetId.{NetId}
use Rattle.mv_graph.specs.Nets.{has_id}
use Rattle.mv_net.proofs.window.add_outside.Given as goal

abbrev pub invariant-loop-net : goal.invariant-loop-net
invariant-loop-net l = l.read.items ≡ l.fn.read.items ++ filter (λ (m : NetId). not (has_id l.tables.keys m.0)) (take l.net-index l.nets)
