use Rattle.std.proofs.Common.{◌≡◌, drop}
use Rattle.mv_acyclic.specs.Driving.{with_names}
use Rattle.mv_unfold.specs.Locals.{actuals_of}
use Rattle.mv_unfold.proofs.gather.add_actuals.Given as goal

abbrev pub invariant-loop-bind : goal.invariant-loop-bind
invariant-loop-bind l = with_names l.nets (actuals_of (drop l.bind-index l.binds)) ≡ with_names l.fn.nets (actuals_of l.binds)
