-- One number of values more.
use Rattle.mv_flex.proofs.Looking.{tells_more}
use Rattle.mv_flex.proofs.truth.marks_of.Goals as goal

pub loop-number-preserved : goal.loop-number-preserved
loop-number-preserved c =
    tells_more c.args.net.now.nets c.args.n.0 c.args.space.now c.loop-number.number c.loop-number.marks _ c.in_ok-mark.mark c.loop-number.invariant c.in_ok-mark.ensures c.in_ok-push.ensures.ok
