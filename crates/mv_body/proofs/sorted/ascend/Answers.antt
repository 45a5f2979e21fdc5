use Rattle.mv_body.proofs.Orders.{ascend-end}
use Rattle.mv_body.proofs.sorted.ascend.Goals as goal

pub returns : goal.returns
returns c = ascend-end c.args.lits.now c.loop-at.at c.loop-at-test.false c.loop-at.invariant
