use Rattle.std.proofs.Common.{◌≤◌, ◌+◌, ◌-◌, length}
use Rattle.mv_plans.proofs.Ordered.{Walks}
use Rattle.mv_plans.proofs.order.are_among.Given as goal

abbrev pub invariant-walk : goal.invariant-walk
invariant-walk l = record { walks : Walks l.nets l.but.0 l.others l.i; within : l.j ≤ length l.others }

abbrev pub decreases-walk : goal.decreases-walk
decreases-walk l = (length l.nets - l.i) + (length l.others - l.j)
