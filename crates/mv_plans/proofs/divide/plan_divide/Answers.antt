-- The first check that fails, or the change that gives the net the body.
use Rattle.std.proofs.Common.{refl, inr}
use Rattle.mv_plans.proofs.Divided.{unnamed_fails, body_fails, table_fails, planned}
use Rattle.mv_plans.proofs.divide.plan_divide.Goals as goal

pub returns-in-None : goal.returns-in-None
returns-in-None c =
    inr (unnamed_fails c.args.net.now c.args.name.now c.args.by.now c.in-Some.n.0 0 c.args.body.now c.in-Some.ensures (rw c.bytes.ensures at (c.in-None.ensures.none refl)))

pub returns-in-Err : goal.returns-in-Err
returns-in-Err c =
    body_fails c.args.net.now c.args.name.now c.args.by.now c.in-Some.n.0 c.in-Some-find.d.0 c.args.body.now c.in-Some.ensures (rw c.bytes.ensures at c.in-Some-find.ensures.some) c.in-Err.fault c.in-Err.ensures

pub returns-in-Err-check_divided : goal.returns-in-Err-check_divided
returns-in-Err-check_divided c =
    table_fails c.args.net.now c.args.name.now c.args.by.now c.in-Some.n.0 c.in-Some-find.d.0 c.args.body.now c.in-Some.ensures (rw c.bytes.ensures at c.in-Some-find.ensures.some) c.in-Err-check_divided.fault
    c.in-Ok.table c.in-Ok.ensures.0 c.in-Ok.ensures.1 c.in-Ok.ensures.2 c.in-Err-check_divided.ensures

pub returns-in-Ok-getting : goal.returns-in-Ok-getting
returns-in-Ok-getting c =
    planned c.args.net.now c.args.name.now c.args.by.now c.in-Some.n c.in-Some-find.d c.args.body.now c.in-Ok.table c.in-Ok-completed.table c.in-Ok-getting.change c.well_formed-2.ensures c.few.ensures
    c.in-Some.ensures (rw c.bytes.ensures at c.in-Some-find.ensures.some) c.in-Ok.ensures.0 c.in-Ok.ensures.1 c.in-Ok.ensures.2 c.in-Ok-check_divided.ensures c.in-Ok-completed.ensures c.in-Ok-getting.ensures
