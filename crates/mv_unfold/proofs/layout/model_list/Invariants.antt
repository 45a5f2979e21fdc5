use Rattle.std.proofs.Common.{◌≡◌, ◌∷◌, map, take}
use Rattle.mv_unfold.proofs.layout.model_list.Given as goal

abbrev pub invariant-loop-instance : goal.invariant-loop-instance
invariant-loop-instance l = l.models ≡ l.design.root ∷ map (λ o. o.model) (take l.instance-index l.opened)
