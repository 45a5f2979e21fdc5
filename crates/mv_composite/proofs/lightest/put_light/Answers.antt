use Rattle.mv_composite.proofs.Sifting.{light_next}
use Rattle.mv_composite.proofs.lightest.put_light.Goals as goal

pub loop-line-preserved : goal.loop-line-preserved
loop-line-preserved c =
    light_next c.args.cap c.args.lines.now c.loop-line.line-index c.line-item.result c.args.left.now c.loop-line.left c.put_if_light.new.left c.loop-line-test.true c.line-item.is c.loop-line.invariant c.in_ok-put_if_light.ensures
