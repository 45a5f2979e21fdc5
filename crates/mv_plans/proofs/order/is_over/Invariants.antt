use Rattle.mv_base.specs.declared.number.NetId.{NetId}
use Rattle.mv_plans.specs.Orders.{IsFrom}
use Rattle.mv_plans.proofs.Ahead.{IsAhead}
use Rattle.mv_plans.proofs.order.is_over.Given as goal

abbrev pub invariant-loop-fanin : goal.invariant-loop-fanin
invariant-loop-fanin l = IsAhead (λ (m : NetId). IsFrom l.net.nets l.n.0 m.0) l.fanins l.fanin-index
