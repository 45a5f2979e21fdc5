-- One literal more; what comes of a cube is a cube.
use Rattle.mv_tight.proofs.Putting.{done_cube, put_more}
use Rattle.mv_tight.proofs.growing.put_in.Goals as goal

pub loop-literal-preserved : goal.loop-literal-preserved
loop-literal-preserved c =
    put_more c.args.m.0 c.args.values c.args.all c.args.lits.now c.loop-literal.grown.items c.put_literal.new.grown.items _ c.loop-literal.literal-index c.literal-item.result
    c.loop-literal-test.true c.literal-item.is c.loop-literal.invariant c.in_ok-put_literal.ensures

pub of-requires : goal.of-requires
of-requires c =
    done_cube c.args.m.0 c.args.values c.args.all c.args.lits.now c.loop-literal.grown.items c.loop-literal.literal-index c.loop-literal-test.false c.loop-literal.invariant c.requires
