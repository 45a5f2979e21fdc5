-- One more net looked at is one more of the list.
use Rattle.std.proofs.Common.{refl}
use Rattle.mv_graph.proofs.Waiting.{looked_next}
use Rattle.mv_graph.proofs.sorting.Sorting.look_at.Goals as goal

pub loop-net-preserved : goal.loop-net-preserved
loop-net-preserved c = looked_next _ _ _ _ c.args.nets.now c.loop-net.net-index _ c.loop-net-test.true refl c.loop-net.invariant c.in_ok-look.ensures
