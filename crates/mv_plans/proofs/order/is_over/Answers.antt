-- The net is neither this one nor above it, so one that it is or is above stands behind.
use Rattle.mv_base.specs.declared.number.NetId.{NetId}
use Rattle.mv_plans.specs.Orders.{IsFrom}
use Rattle.mv_plans.proofs.Ahead.{ahead_at}
use Rattle.mv_plans.proofs.order.is_over.Goals as goal

pub loop-fanin-preserved : goal.loop-fanin-preserved
loop-fanin-preserved c =
    ahead_at (λ (m : NetId). IsFrom c.args.net.now.nets c.args.n.0 m.0) c.args.fanins.now c.loop-fanin.fanin-index _ c.loop-fanin-test.true (rw c.if-branch.false at c.in_ok-is_from.ensures) c.loop-fanin.invariant
