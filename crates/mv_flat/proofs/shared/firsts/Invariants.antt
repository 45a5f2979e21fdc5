use Rattle.std.proofs.Common.{◌≡◌, ◌++◌, drop}
use Rattle.mv_flat.specs.Shared.{firsts_from}
use Rattle.mv_flat.proofs.shared.firsts.Given as goal

abbrev pub invariant-loop-model : goal.invariant-loop-model
invariant-loop-model l = l.firsts.items ++ firsts_from l.next (drop l.model-index l.models) ≡ firsts_from 0 l.models
