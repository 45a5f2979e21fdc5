-- What was put is what all of the cubes give.
use Rattle.std.proofs.Common.{List, subst, sym}
use Rattle.mv_cover.specs.Literal.{Lit}
use Rattle.mv_cover.specs.Meets.{met}
use Rattle.mv_cover.specs.Complement.{lines_for}
use Rattle.mv_composite.proofs.Puts.{puts_next, puts_all, lines_for-flat}
use Rattle.mv_composite.proofs.put.put_all.Goals as goal

pub loop-cube-init : goal.loop-cube-init
loop-cube-init g c = g.met.T.Taker.takes_none c.args.taker.now

pub loop-cube-preserved : goal.loop-cube-preserved
loop-cube-preserved g c =
    puts_next g.T.Taker.takes g.met.T.Taker.takes_more (λ (cube : List Lit). lines_for c.args.out.now (met c.args.rest.now cube)) c.args.cubes.now c.loop-cube.cube-index c.cube-item.result c.args.taker.now c.loop-cube.taker c.put_met.new.taker c.loop-cube-test.true c.cube-item.is c.loop-cube.invariant c.in_ok-put_met.ensures

pub returns : goal.returns
returns g c =
    subst (g.T.Taker.takes c.args.taker.now c.loop-cube.taker) (sym (lines_for-flat c.args.out.now (met c.args.rest.now) c.args.cubes.now))
    (puts_all (g.T.Taker.takes c.args.taker.now c.loop-cube.taker) (λ (cube : List Lit). lines_for c.args.out.now (met c.args.rest.now cube)) c.args.cubes.now c.loop-cube.cube-index c.loop-cube-test.false c.loop-cube.invariant)
