-- One line more is in the set.
use Rattle.mv_plans.proofs.Found.{same_next}
use Rattle.mv_plans.proofs.expand.set_of.Goals as goal

pub loop-line-preserved : goal.loop-line-preserved
loop-line-preserved c =
    same_next c.loop-line.set.keys c.insert.new.self.keys c.args.lines.now c.loop-line.line-index c.line-item.result c.in_ok-copy.field-0 c.loop-line-test.true c.line-item.is c.in_ok-copy.ensures.copy
    c.in_ok-insert.ensures.keys c.loop-line.invariant
