-- One cube more adds its sharp at the end.
use Rattle.std.proofs.Common.{arith}
use Rattle.mv_determine.proofs.Cutting.{sharps_all, sharps_begun, sharps_long, sharps_next}
use Rattle.mv_determine.proofs.behind.sharps.Goals as goal

pub loop-cube-init : goal.loop-cube-init
loop-cube-init c = sharps_begun c.args.counts.now c.args.other.now c.args.cubes.now c.new-left.result.items c.new-left.ensures.items

pub loop-cube-preserved : goal.loop-cube-preserved
loop-cube-preserved c =
    sharps_next c.args.counts.now c.args.other.now c.args.cubes.now c.loop-cube.left.items c.put_all.new.list.items c.in_ok-without.field-0.items c.loop-cube.cube-index c.cube-item.result c.loop-cube-test.true c.cube-item.is c.loop-cube.invariant
    c.in_ok-without.ensures.list c.in_ok-put_all.ensures c.in_ok-without.ensures.suited (omega arith)

pub returns-then-len-gt-MAX_COMPLEMENT_CUBES-clause-wide :
    goal.returns-then-len-gt-MAX_COMPLEMENT_CUBES-clause-wide
returns-then-len-gt-MAX_COMPLEMENT_CUBES-clause-wide c _ =
    sharps_long c.args.counts.now c.args.other.now c.args.cubes.now c.loop-cube.left.items c.put_all.new.list.items c.in_ok-without.field-0.items c.loop-cube.cube-index c.cube-item.result c.loop-cube-test.true c.cube-item.is c.loop-cube.invariant
    c.in_ok-without.ensures.list c.in_ok-put_all.ensures (omega arith)

pub returns-clause-list : goal.returns-clause-list
returns-clause-list c = sharps_all c.args.counts.now c.args.other.now c.args.cubes.now c.loop-cube.left.items c.loop-cube.cube-index c.loop-cube-test.false c.loop-cube.invariant
