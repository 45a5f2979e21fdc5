use Rattle.std.proofs.Common.{◌&&◌, nat_lt}
use Rattle.mv_graph.specs.Nets.{IsAscending}
use Rattle.mv_net.specs.Index.{is_held}
use Rattle.mv_net.proofs.network.Network.held_nets.Given as goal

abbrev pub invariant-loop-number : goal.invariant-loop-number
invariant-loop-number l = IsAscending (λ n. nat_lt n l.number && is_held l.self.nets n) l.nets
