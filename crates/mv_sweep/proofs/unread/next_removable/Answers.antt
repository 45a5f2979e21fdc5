-- Where nothing waits no net can go; the one that is taken is the least.
use Rattle.mv_sweep.proofs.Search.{none_left, next_of, wait_without}
use Rattle.mv_sweep.proofs.unread.next_removable.Goals as goal

pub returns-in_default : goal.returns-in_default
returns-in_default c = none_left c.args.net.now c.looking.agenda c.looking.invariant c.in_default.ensures

pub returns-in-Ok-true : goal.returns-in-Ok-true
returns-in-Ok-true c =
    let can = rw c.in-Ok-true.field-0-test at c.in-Ok-true.ensures in
    next_of c.args.net.now c.looking.agenda c.take_least.new.self c.in-Some.n.0 c.looking.invariant c.in-Some.ensures can

pub looking-preserved : goal.looking-preserved
looking-preserved c =
    let stays = rw c.in-Ok-false.field-0-test at c.in-Ok-false.ensures in
    wait_without c.args.net.now c.looking.agenda c.take_least.new.self c.in-Some.n.0 c.looking.invariant c.in-Some.ensures stays
