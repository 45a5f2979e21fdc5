use Rattle.std.proofs.Common.{map, take}
use Rattle.mv_unfold.specs.ByName.{FindsFirst}
use Rattle.mv_unfold.proofs.by_name.FirstPlaces.of_binds.Given as goal

abbrev pub invariant-loop-place : goal.invariant-loop-place
invariant-loop-place l = FindsFirst l.all (map (λ x. x.formal) (take l.place l.binds))
