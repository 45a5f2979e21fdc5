use Rattle.mv_graph.proofs.Nets.{ascending_kept}
use Rattle.mv_net.proofs.fanins.ascending.Goals as goal

pub returns : goal.returns
returns c =
    rw c.of.ensures (ascending_kept _ _ _ c.sort_unstable.ensures.permutation c.sort_unstable.ensures.sorted c.dedup.ensures.filtered)
