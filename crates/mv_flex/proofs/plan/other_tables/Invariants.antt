use Rattle.std.proofs.Common.{◌≡◌, not, nat_eq, filter, take}
use Rattle.mv_base.specs.declared.number.NetId.{NetId}
use Rattle.mv_flex.proofs.plan.other_tables.Given as goal

abbrev pub invariant-loop-table : goal.invariant-loop-table
invariant-loop-table l = l.nets ≡ filter (λ (m : NetId). not (nat_eq m.0 l.n.0)) (take l.table-index l.table-items)
