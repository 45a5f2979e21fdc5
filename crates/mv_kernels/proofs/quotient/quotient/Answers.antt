-- Each cube is read before it is divided.
use Rattle.std.proofs.Common.{arith, subst}
use Rattle.std.proofs.lemmas.Grind.{common_steps}
use Rattle.std.proofs.lemmas.List.Elements.{All-more}
use Rattle.mv_cover.specs.Cubes.{IsCube}
use Rattle.mv_kernels.proofs.quotient.quotient.Goals as goal

pub loop-cube-preserved : goal.loop-cube-preserved
loop-cube-preserved c = record {
  part = grind (arith, common_steps);
  formed = All-more IsCube c.args.cubes.now c.loop-cube.cube-index c.cube-item.result c.loop-cube-test.true c.loop-cube.invariant.formed (subst IsCube c.cube-item.is c.lits.ensures.formed);
}
