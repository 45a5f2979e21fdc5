use Rattle.std.proofs.Common.{◌≡◌, take}
use Rattle.mv_walk.proofs.known.all_ports.Given as goal

abbrev pub invariant-loop-model : goal.invariant-loop-model
invariant-loop-model l = l.ports ≡ take l.model-index l.models
