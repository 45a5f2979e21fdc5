-- The sorted nets, each once, are those of the columns and the mark.
use Rattle.std.proofs.Common.{ap}
use Rattle.mv_graph.specs.Nets.{has_id}
use Rattle.mv_graph.proofs.Nets.{IsAscending-same, ascending_kept}
use Rattle.mv_shapes.proofs.shape.nets_of.Goals as goal

pub returns : goal.returns
returns c =
    IsAscending-same _ _ _ (λ n. ap (λ ns. has_id ns n) c.in_ok-nets.ensures)
    (rw c.of.ensures (ascending_kept _ _ _ c.sort_unstable.ensures.permutation c.sort_unstable.ensures.sorted c.dedup.ensures.filtered))
