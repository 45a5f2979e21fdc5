use Rattle.std.proofs.Common.{◌≡◌, drop}
use Rattle.std.specs.List.{flat_map}
use Rattle.mv_walk.specs.Misfits.{bind_misfits}
use Rattle.mv_walk.proofs.bindings.bind_fault.Given as goal

abbrev pub invariant-loop-bind : goal.invariant-loop-bind
invariant-loop-bind l = flat_map (bind_misfits l.round l.ports) (drop l.bind-index l.binds) ≡ flat_map (bind_misfits l.round l.ports) l.binds
