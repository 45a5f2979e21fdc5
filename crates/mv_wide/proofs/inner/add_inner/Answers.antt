-- Each of the nets has a variable.
use Rattle.mv_graph.proofs.Nets.{has_id-at}
use Rattle.mv_wide.proofs.inner.add_inner.Goals as goal

pub bounds-vars-net : goal.bounds-vars-net
bounds-vars-net c = c.requires _ (has_id-at c.args.nets.now c.loop-place.place-counter _ c.loop-place-test.true)
