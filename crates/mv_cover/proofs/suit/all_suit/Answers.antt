-- Each literal so far fits, or one doesn't.
use Rattle.mv_cover.proofs.Suiting.{behind_more, Suits-get_or}
use Rattle.mv_cover.proofs.suit.all_suit.Goals as goal

pub loop-l-preserved : goal.loop-l-preserved
loop-l-preserved c =
    behind_more c.args.counts.now c.args.lits.now c.loop-l.l-index c.l-item.result c.loop-l-test.true c.l-item.is c.if-not-fits.ensures c.loop-l.invariant

pub returns-then-not-fits : goal.returns-then-not-fits
returns-then-not-fits c =
    λ s. c.if-not-fits.ensures (Suits-get_or c.args.counts.now c.args.lits.now c.loop-l.l-index c.l-item.result c.loop-l-test.true c.l-item.is s)
