use Rattle.std.proofs.Common.{◌≡◌, ◌*◌, ◌≤◌, ◌^◌, take, All}
use Rattle.mv_cover.specs.Cubes.{IsCube}
use Rattle.mv_saving.specs.Saving.{literals}
use Rattle.mv_saving.proofs.saved.literals.Given as goal

abbrev pub invariant-loop-cube : goal.invariant-loop-cube
invariant-loop-cube l = record {
  total : l.total ≡ literals (take l.cube-index l.cubes);
  few : l.total ≤ l.cube-index * 2 ^ 32;
  formed : All IsCube (take l.cube-index l.cubes);
}
