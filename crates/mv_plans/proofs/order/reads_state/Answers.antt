-- The output of the latch is neither one of the nets nor above one, so one that is stands behind.
use Rattle.mv_net.specs.declared.parts.FlatLatch.{FlatLatch}
use Rattle.mv_plans.specs.Orders.{IsOver}
use Rattle.mv_plans.proofs.Ahead.{ahead_at}
use Rattle.mv_plans.proofs.order.reads_state.Goals as goal

pub loop-latch-preserved : goal.loop-latch-preserved
loop-latch-preserved c =
    ahead_at (λ (k : FlatLatch). IsOver c.args.net.now.nets c.args.fanins.now k.output.0) c.args.latches.now c.loop-latch.latch-index _ c.loop-latch-test.true (rw c.if-branch.false at c.in_ok-is_over.ensures)
    c.loop-latch.invariant
