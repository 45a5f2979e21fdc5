use Rattle.std.proofs.Common.{◌≡◌, ℕ, ◌<◌, length}
use Rattle.mv_net.specs.Nets.{slot, net_reads}
use Rattle.mv_graph.specs.Nets.{row, IsAscending}
use Rattle.mv_net.proofs.fanins.fanins_of.Given as goal

abbrev pub invariant-loop-net : goal.invariant-loop-net
invariant-loop-net l =
    (length l.rows ≡ l.net-index) × ((k : ℕ) → k < l.net-index → IsAscending (net_reads (slot l.nets k)) (row l.rows k))
