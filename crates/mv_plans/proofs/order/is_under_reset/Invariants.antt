use Rattle.mv_net.specs.declared.parts.FlatLatch.{FlatLatch}
use Rattle.mv_plans.specs.Orders.{IsFromReset}
use Rattle.mv_plans.proofs.Ahead.{IsAhead}
use Rattle.mv_plans.proofs.order.is_under_reset.Given as goal

abbrev pub invariant-loop-latch : goal.invariant-loop-latch
invariant-loop-latch l = IsAhead (λ (k : FlatLatch). IsFromReset l.net.nets l.n.0 k.reset) l.latches l.latch-index
