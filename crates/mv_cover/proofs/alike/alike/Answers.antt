use Rattle.mv_cover.proofs.ValueClasses.{alike_more}
use Rattle.mv_cover.proofs.alike.alike.Goals as goal

pub loop-cube-preserved : goal.loop-cube-preserved
loop-cube-preserved c =
    alike_more c.args.cubes.now c.args.net.0 c.args.value.0 c.loop-cube.set c.alike_in-set.result c.loop-cube.cube-index c.cube-item.result c.as_slice.result.now c.loop-cube-test.true c.cube-item.is c.as_slice.ensures c.alike_in-set.ensures.fewer
    c.alike_in-set.ensures.same c.loop-cube.invariant
