use Rattle.std.proofs.Common.{◌≡◌, ◌++◌, filter, take}
use Rattle.mv_base.specs.declared.number.NetId.{NetId}
use Rattle.mv_graph.specs.Nets.{has_id}
use Rattle.mv_flex.proofs.plan.shown_nets.Given as goal

abbrev pub invariant-loop-table : goal.invariant-loop-table
invariant-loop-table l = l.nets ≡ l.w.inputs ++ filter (λ (m : NetId). has_id l.w.outputs m.0) (take l.table-index l.table-items)
