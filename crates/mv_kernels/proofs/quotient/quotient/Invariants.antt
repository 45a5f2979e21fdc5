use Rattle.std.proofs.Common.{◌≡◌, All, take}
use Rattle.mv_cover.specs.Cubes.{IsCube}
use Rattle.mv_kernels.specs.Symbols as spec
use Rattle.mv_kernels.proofs.quotient.quotient.Given as goal

abbrev pub invariant-loop-cube : goal.invariant-loop-cube
invariant-loop-cube l = record {
  part : l.part.items ≡ spec.quotient (take l.cube-index l.cubes) l.symbols;
  formed : All IsCube (take l.cube-index l.cubes);
}
