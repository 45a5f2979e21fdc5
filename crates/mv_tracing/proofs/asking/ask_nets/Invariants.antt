-- The values so far were asked, and these are left.
use Rattle.std.proofs.Common.{drop, map}
use Rattle.std.specs.List.{zip}
use Rattle.mv_base.specs.declared.number.NetId.{NetId}
use Rattle.mv_base.specs.declared.number.Value.{Value}
use Rattle.mv_tracing.proofs.Giving.{Left}
use Rattle.mv_tracing.proofs.asking.ask_nets.Given as goal

abbrev pub invariant-loop-at : goal.invariant-loop-at
invariant-loop-at l =
    let values = map (λ (v : Value). v.0) l.values in
    let numbers = map (λ (n : NetId). n.0) in
    Left l.fn.solver l.solver (zip (numbers (drop l.at l.nets)) (drop l.at values)) (zip (numbers l.nets) values)
