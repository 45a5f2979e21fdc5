use Rattle.mv_body.proofs.Numbers.{lines_more, lines_unknown, lines_all}
use Rattle.mv_body.proofs.known.is_known.Goals as goal

pub loop-line-preserved : goal.loop-line-preserved
loop-line-preserved c =
    lines_more c.args.net.now.nets c.as_slice-line-items.result.now c.loop-line.line-index c.line-item.result _ c.loop-line-test.true c.line-item.is c.loop-line.invariant c.as_slice.ensures c.if-not-are_known.ensures

pub returns-then-not-are_known : goal.returns-then-not-are_known
returns-then-not-are_known c =
    lines_unknown c.args.net.now.nets c.args.body.now c.as_slice-line-items.result.now c.loop-line.line-index c.line-item.result _ c.as_slice-line-items.ensures c.loop-line-test.true c.line-item.is c.as_slice.ensures c.if-not-are_known.ensures

pub returns : goal.returns
returns c =
    lines_all c.args.net.now.nets c.args.body.now c.as_slice-line-items.result.now c.loop-line.line-index c.as_slice-line-items.ensures c.loop-line-test.false c.loop-line.invariant
