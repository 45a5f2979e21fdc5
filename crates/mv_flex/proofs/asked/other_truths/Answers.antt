-- The truth of one table more.
use Rattle.mv_flex.proofs.Looking.{has_at, truths_more}
use Rattle.mv_flex.proofs.asked.other_truths.Goals as goal

pub of-requires : goal.of-requires
of-requires c = c.requires _ (has_at c.args.others.now c.loop-other.other-index _ c.loop-other-test.true)

pub loop-other-preserved : goal.loop-other-preserved
loop-other-preserved c =
    truths_more c.args.net.now.nets c.args.nets.now c.args.others.now c.loop-other.truths _ c.loop-other.other-index _ c.in_ok-truth.truth c.loop-other.invariant c.loop-other-test.true c.in_ok-truth.ensures.net c.in_ok-truth.ensures.truth c.in_ok-push.ensures.ok
