-- Each line so far suits the counts, or one doesn't.
use Rattle.std.proofs.Common.{refl}
use Rattle.mv_cover.proofs.Suiting.{lines_more, lines_all}
use Rattle.mv_cover.proofs.suit.lines_suit.Goals as goal

pub loop-line-preserved : goal.loop-line-preserved
loop-line-preserved c =
    lines_more c.args.counts.now c.args.lines.now c.loop-line.line-index c.line-item.result c.line-item.result.cube c.loop-line-test.true c.line-item.is refl c.if-not-suits.ensures c.loop-line.invariant

pub returns : goal.returns
returns c =
    lines_all c.args.counts.now c.args.lines.now c.args.lines.now c.loop-line.line-index c.loop-line-test.false refl c.loop-line.invariant
