-- The first check that fails, or the change that gives the net the body.
use Rattle.mv_plans.proofs.Narrowed.{planned, reached_fails, within_lawful}
use Rattle.mv_plans.proofs.narrow.plan_narrow_within.Goals as goal

pub returns-in-Err-reached : goal.returns-in-Err-reached
returns-in-Err-reached c =
    reached_fails c.args.net.now c.args.name.now c.args.d c.args.u c.in-Ok.new.net c.args.body.now c.well_formed-2.ensures c.few.ensures c.in-Ok.ensures.0 c.in-Ok.ensures.1
    c.in-Err-reached.fault c.in-Err-reached.ensures

pub returns-in-Ok-getting : goal.returns-in-Ok-getting
returns-in-Ok-getting c =
    planned c.args.net.now c.args.name.now c.args.d c.args.u c.in-Ok.new.net c.args.body.now c.well_formed-2.ensures c.few.ensures c.in-Ok.ensures.0 c.in-Ok.ensures.1
    c.in-Ok.new.table c.in-Ok-getting.change c.in-Ok.ensures.2
    (within_lawful c.args.net.now c.args.name.now c.args.d c.args.u c.in-Ok.new.net c.args.body.now c.well_formed-2.ensures c.few.ensures c.in-Ok.ensures.0 c.in-Ok.ensures.1
    c.in-Ok.new.table c.in-Ok.ensures.2 c.requires.less c.in-Ok-reached.ensures)
    c.in-Ok-getting.ensures
