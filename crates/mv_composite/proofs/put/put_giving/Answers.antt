-- What was put is what all of the lines give that are asked for.
use Rattle.std.proofs.Common.{subst, sym}
use Rattle.mv_cover.specs.declared.line.Line.{Line}
use Rattle.mv_composite.specs.Composite.{set_meets}
use Rattle.mv_composite.proofs.Puts.{puts_all, meets_given, meets_flat}
use Rattle.mv_composite.proofs.put.put_giving.Goals as goal

pub loop-line-init : goal.loop-line-init
loop-line-init g c = g.met.T.Taker.takes_none c.args.taker.now

pub returns : goal.returns
returns g c =
    subst (g.T.Taker.takes c.args.taker.now c.loop-line.taker) (sym (meets_flat c.args.rest.now (λ (l : Line). set_meets c.args.asked.now l.out) c.args.out.now c.args.lines.now))
    (puts_all (g.T.Taker.takes c.args.taker.now c.loop-line.taker) (λ (l : Line). meets_given c.args.rest.now (set_meets c.args.asked.now l.out) c.args.out.now l.cube) c.args.lines.now c.loop-line.line-index c.loop-line-test.false c.loop-line.invariant)
