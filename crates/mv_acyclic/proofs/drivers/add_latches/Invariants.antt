use Rattle.std.proofs.Common.{◌≡◌, drop, map}
use Rattle.mv_acyclic.specs.Driving.{with_names}
use Rattle.mv_acyclic.proofs.drivers.add_latches.Given as goal

abbrev pub invariant-loop-latch : goal.invariant-loop-latch
invariant-loop-latch l = with_names l.names (map (λ x. x.output) (drop l.latch-index l.latches)) ≡ with_names l.fn.names (map (λ x. x.output) l.latches)
