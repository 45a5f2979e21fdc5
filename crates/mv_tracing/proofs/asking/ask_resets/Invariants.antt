-- The values so far were asked, and these are left.
use Rattle.std.proofs.Common.{drop, map}
use Rattle.mv_base.specs.declared.number.Value.{Value}
use Rattle.mv_trace.specs.Given.{reset_values}
use Rattle.mv_tracing.proofs.Giving.{Left}
use Rattle.mv_tracing.proofs.asking.ask_resets.Given as goal

abbrev pub invariant-loop-at : goal.invariant-loop-at
invariant-loop-at l =
    let values = map (λ (v : Value). v.0) l.values in
    Left l.fn.solver l.solver (reset_values (drop l.at l.latches) (drop l.at values)) (reset_values l.latches values)
