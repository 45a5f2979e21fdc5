-- What was put is what the giver makes of all of the lines.
use Rattle.mv_composite.proofs.Puts.{puts_next, puts_all}
use Rattle.mv_composite.proofs.given.put_lines.Goals as goal

pub loop-line-init : goal.loop-line-init
loop-line-init g c = g.met.T.Taker.takes_none c.args.taker.now

pub loop-line-preserved : goal.loop-line-preserved
loop-line-preserved g c =
    puts_next g.T.Taker.takes g.met.T.Taker.takes_more (g.G.Giver.gives c.args.giver.now) c.args.lines.now c.loop-line.line-index c.line-item.result c.args.taker.now c.loop-line.taker c.give.new.taker c.loop-line-test.true c.line-item.is c.loop-line.invariant c.in_ok-give.ensures

pub returns : goal.returns
returns g c = puts_all (g.T.Taker.takes c.args.taker.now c.loop-line.taker) (g.G.Giver.gives c.args.giver.now) c.args.lines.now c.loop-line.line-index c.loop-line-test.false c.loop-line.invariant
