-- Where nothing waits no rule applies to any net; the one that is taken is the least.
use Rattle.mv_sweep.proofs.Swept.{all_swept, next_of, wait_without}
use Rattle.mv_sweep.proofs.sweeping.next_found.Goals as goal

pub returns-in_default-clause-found : goal.returns-in_default-clause-found
returns-in_default-clause-found c = all_swept c.args.net.now c.looking.agenda c.looking.invariant.wait c.in_default.ensures

pub returns-in-Ok-Some-clause-found : goal.returns-in-Ok-Some-clause-found
returns-in-Ok-Some-clause-found c =
    let is = rw c.in-Ok-Some.field-0-is at c.in-Ok-Some.ensures.way in
    next_of c.args.net.now c.looking.agenda c.take_least.new.self c.in-Some.n.0 c.in-Ok-Some.way c.looking.invariant.wait c.in-Some.ensures is

pub looking-preserved : goal.looking-preserved
looking-preserved c =
    let swept = rw c.in-Ok-None.field-0-is at c.in-Ok-None.ensures.way in
    record {
      wait = wait_without c.args.net.now c.looking.agenda c.take_least.new.self c.in-Some.n.0 c.looking.invariant.wait c.in-Some.ensures swept;
      right = c.in-Ok-None.ensures.right;
    }
