use Rattle.std.proofs.Common.{take}
use Rattle.mv_graph.specs.Nets.{has_id}
use Rattle.mv_net.specs.Searching.{HasExactly, IsReadBy}
use Rattle.mv_net.proofs.network.Network.inputs_of.Given as goal

abbrev pub invariant-loop-net : goal.invariant-loop-net
invariant-loop-net l = HasExactly (IsReadBy l.self.nets (has_id l.tables.keys) (take l.net-index l.tables.keys)) l.read.items
