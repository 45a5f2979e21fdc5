use Rattle.std.proofs.Common.{◌≡◌, drop}
use Rattle.std.specs.List.{flat_map}
use Rattle.mv_base.specs.Names.{among}
use Rattle.mv_walk.specs.Misfits.{open_misfits}
use Rattle.mv_walk.proofs.bindings.open_fault.Given as goal

abbrev pub invariant-loop-input : goal.invariant-loop-input
invariant-loop-input l = flat_map (open_misfits (λ net. among net l.bound)) (drop l.input-index l.inputs) ≡ flat_map (open_misfits (λ net. among net l.bound)) l.inputs
