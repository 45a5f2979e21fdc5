use Rattle.std.proofs.Common.{◌≡◌, List, [], ◌∷◌, map}
use Rattle.mv_cover.specs.Literal.{Lit}
use Rattle.mv_gains.proofs.cubes.divisors_of.Given as goal

abbrev pub invariant-loop-cube : goal.invariant-loop-cube
invariant-loop-cube l = l.list.items ≡ map (λ (c : List Lit). c ∷ []) l.yielded
