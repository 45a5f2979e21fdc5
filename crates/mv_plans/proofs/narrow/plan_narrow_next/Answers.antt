-- The first check that fails, or the change that gives the net the body.
use Rattle.mv_plans.proofs.Narrowed.{judged_fails, planned, stops}
use Rattle.mv_plans.proofs.narrow.plan_narrow_next.Goals as goal

pub judged_next-requires-clause-reads : goal.judged_next-requires-clause-reads
judged_next-requires-clause-reads c = rw c.in-Ok.ensures.2 c.in-Ok.ensures.1.reads

pub returns-in-Err : goal.returns-in-Err
returns-in-Err c = stops c.args.budget c.args.net.now c.args.name.now c.args.d c.args.u c.args.body.now c.in-Err.fault c.in-Err.ensures

pub returns-in-Err-judged_next : goal.returns-in-Err-judged_next
returns-in-Err-judged_next c =
    judged_fails c.args.net.now c.args.name.now c.args.d c.args.u c.in-Ok.new.net c.args.body.now c.well_formed-2.ensures c.few.ensures c.in-Ok.ensures.0 c.in-Ok.ensures.1
    c.args.budget c.in-Ok.new.table c.in-Err-judged_next.fault c.in-Ok.ensures.2 c.in-Err-judged_next.ensures

pub returns-in-Ok-getting : goal.returns-in-Ok-getting
returns-in-Ok-getting c =
    planned c.args.net.now c.args.name.now c.args.d c.args.u c.in-Ok.new.net c.args.body.now c.well_formed-2.ensures c.few.ensures c.in-Ok.ensures.0 c.in-Ok.ensures.1
    c.in-Ok.new.table c.in-Ok-getting.change c.in-Ok.ensures.2 c.in-Ok-judged_next.ensures c.in-Ok-getting.ensures
