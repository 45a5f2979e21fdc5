use Rattle.mv_gains.proofs.Commons.{shared_more}
use Rattle.mv_gains.proofs.cubes.add_with.Goals as goal

pub loop-place-preserved : goal.loop-place-preserved
loop-place-preserved c =
    shared_more c.args.cubes.now c.args.cube.now c.args.places.now c.loop-place.place-index c.in_ok-common.field-0 c.index-cubes-place.result c.args.found.now.keys c.loop-place.found.keys c.put.new.found.keys c.loop-place-test.true (c.requires c.loop-place.place-index 0 c.loop-place-test.true) c.index-cubes-place.is c.in_ok-common.ensures c.loop-place.invariant c.in_ok-put.ensures
