use Rattle.std.proofs.Common.{take}
use Rattle.mv_graph.specs.Nets.{has_id}
use Rattle.mv_net.specs.Searching.{HasExactly, IsShownOf}
use Rattle.mv_net.proofs.network.Network.outputs_of.Given as goal

abbrev pub invariant-loop-net : goal.invariant-loop-net
invariant-loop-net l = HasExactly (IsShownOf l.self (has_id l.tables.keys) (take l.net-index l.tables.keys)) l.shown.items
