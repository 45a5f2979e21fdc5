-- The values so far were asked, and these are left.
use Rattle.std.proofs.Common.{drop, map}
use Rattle.std.specs.List.{zip}
use Rattle.mv_net.specs.declared.parts.FlatLatch.{FlatLatch}
use Rattle.mv_base.specs.declared.number.Value.{Value}
use Rattle.mv_tracing.proofs.Giving.{Left}
use Rattle.mv_tracing.proofs.asking.ask_inputs.Given as goal

abbrev pub invariant-loop-at : goal.invariant-loop-at
invariant-loop-at l =
    let values = map (λ (v : Value). v.0) l.values in
    let numbers = map (λ (l : FlatLatch). l.input.0) in
    Left l.fn.solver l.solver (zip (numbers (drop l.at l.latches)) (drop l.at values)) (zip (numbers l.latches) values)
