-- The first check that fails, or the change that gives the net the body.
use Rattle.std.proofs.Common.{Ok, Err}
use Rattle.mv_plans.proofs.Narrowed.{hand_answers, judged_fails, planned, stops}
use Rattle.mv_plans.proofs.narrow.plan_narrow_with.Goals as goal

pub returns-in-Err : goal.returns-in-Err
returns-in-Err c = λ budget hand. stops budget c.args.net.now c.args.name.now c.args.d c.args.u c.args.body.now c.in-Err.fault c.in-Err.ensures

pub returns-in-Err-judged_with : goal.returns-in-Err-judged_with
returns-in-Err-judged_with c = λ budget hand.
    judged_fails c.args.net.now c.args.name.now c.args.d c.args.u c.in-Ok.new.net c.args.body.now c.well_formed-2.ensures c.few.ensures c.in-Ok.ensures.0 c.in-Ok.ensures.1
    budget c.in-Ok.new.table c.in-Err-judged_with.fault c.in-Ok.ensures.2
    (hand_answers c.args.net.now c.args.name.now c.args.d c.args.u c.in-Ok.new.net c.args.body.now c.well_formed-2.ensures c.few.ensures c.in-Ok.ensures.0 c.in-Ok.ensures.1
    budget c.args.flexibility.now c.in-Ok.new.table (Err c.in-Err-judged_with.fault) c.in-Ok.ensures.2 hand c.in-Err-judged_with.ensures)

pub returns-in-Ok-getting : goal.returns-in-Ok-getting
returns-in-Ok-getting c = λ budget hand.
    planned c.args.net.now c.args.name.now c.args.d c.args.u c.in-Ok.new.net c.args.body.now c.well_formed-2.ensures c.few.ensures c.in-Ok.ensures.0 c.in-Ok.ensures.1
    c.in-Ok.new.table c.in-Ok-getting.change c.in-Ok.ensures.2
    (hand_answers c.args.net.now c.args.name.now c.args.d c.args.u c.in-Ok.new.net c.args.body.now c.well_formed-2.ensures c.few.ensures c.in-Ok.ensures.0 c.in-Ok.ensures.1
    budget c.args.flexibility.now c.in-Ok.new.table (Ok tt) c.in-Ok.ensures.2 hand c.in-Ok-judged_with.ensures)
    c.in-Ok-getting.ensures
