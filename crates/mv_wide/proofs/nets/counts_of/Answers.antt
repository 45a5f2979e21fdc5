-- Each of the nets is held.
use Rattle.mv_graph.proofs.Nets.{has_id-at}
use Rattle.mv_wide.proofs.nets.counts_of.Goals as goal

pub values-requires : goal.values-requires
values-requires c = c.requires.each _ (has_id-at c.args.nets.now c.loop-held.held-index _ c.loop-held-test.true)
