-- Where nothing waits no net saves; the one that is taken is the least.
use Rattle.mv_eliminate.proofs.Eliminated.{none_saves, next_of, wait_without}
use Rattle.mv_eliminate.proofs.eliminating.next_saving.Goals as goal

pub returns-in_default-clause-found : goal.returns-in_default-clause-found
returns-in_default-clause-found c = none_saves c.args.net.now c.looking.agenda c.looking.invariant.wait c.in_default.ensures

pub returns-in-Ok-true-clause-found : goal.returns-in-Ok-true-clause-found
returns-in-Ok-true-clause-found c =
    let saving = rw c.in-Ok-true.field-0-test at c.in-Ok-true.ensures.saves in
    next_of c.args.net.now c.looking.agenda c.take_least.new.self c.in-Some.n.0 c.looking.invariant.wait c.in-Some.ensures saving

pub looking-preserved : goal.looking-preserved
looking-preserved c =
    let stays = rw c.in-Ok-false.field-0-test at c.in-Ok-false.ensures.saves in
    record {
      wait = wait_without c.args.net.now c.looking.agenda c.take_least.new.self c.in-Some.n.0 c.looking.invariant.wait c.in-Some.ensures stays;
      right = c.in-Ok-false.ensures.right;
    }
