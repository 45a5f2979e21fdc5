use Rattle.mv_gains.proofs.Savings.{saving_more}
use Rattle.mv_gains.proofs.tables.saving_of.Goals as goal

pub loop-part-preserved : goal.loop-part-preserved
loop-part-preserved c =
    let more = saving_more c.args.divisor.now c.args.parts.now c.loop-part.part-index c.part-item.result c.loop-part.total c.in_ok-total.field-0 c.loop-part-test.true c.part-item.is c.loop-part.invariant.sum c.loop-part.invariant.few c.in_ok-total.ensures in
    record { sum = more.sum; few = more.few }
