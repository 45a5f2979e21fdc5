use Rattle.std.proofs.Common.{◌≡◌, ◌++◌, drop}
use Rattle.mv_cover.specs.Cofactors.{cofactor_of}
use Rattle.mv_cover.proofs.covers.cofactor.Given as goal

abbrev pub invariant-loop-cube : goal.invariant-loop-cube
invariant-loop-cube l = l.part ++ cofactor_of l.net.0 l.value.0 (drop l.cube-index l.cubes) ≡ cofactor_of l.net.0 l.value.0 l.cubes
