use Rattle.mv_net.specs.declared.parts.FlatLatch.{FlatLatch}
use Rattle.mv_plans.specs.Orders.{IsOver}
use Rattle.mv_plans.proofs.Ahead.{IsAhead}
use Rattle.mv_plans.proofs.order.reads_state.Given as goal

abbrev pub invariant-loop-latch : goal.invariant-loop-latch
invariant-loop-latch l = IsAhead (λ (k : FlatLatch). IsOver l.net.nets l.fanins k.output.0) l.latches l.latch-index
