use Rattle.std.proofs.Common.{◌≡◌, not, filter, take}
use Rattle.mv_base.specs.declared.number.NetId.{NetId}
use Rattle.mv_graph.specs.Nets.{has_id}
use Rattle.mv_flex.proofs.plan.hidden_nets.Given as goal

abbrev pub invariant-loop-table : goal.invariant-loop-table
invariant-loop-table l = l.nets ≡ filter (λ (m : NetId). not (has_id l.w.outputs m.0)) (take l.table-index l.table-items)
