use Rattle.std.proofs.Common.{◌≡◌, map, take}
use Rattle.mv_tree.specs.Places.{all_nets}
use Rattle.mv_unfold.proofs.gather.local_nets.Given as goal

abbrev pub invariant-loop-model : goal.invariant-loop-model
invariant-loop-model l = l.nets ≡ map all_nets (take l.model-index l.models)
