-- Where nothing waits no net has a merge; the one that is taken is the least.
use Rattle.mv_merge.proofs.Searching.{all_merged, next_of, wait_without}
use Rattle.mv_merge.proofs.merging.next_found.Goals as goal

pub returns-in_default : goal.returns-in_default
returns-in_default c = all_merged c.args.net.now c.looking.agenda c.looking.invariant c.in_default.ensures

pub returns-in-Ok-Some : goal.returns-in-Ok-Some
returns-in-Ok-Some c =
    let merge = rw c.in-Ok-Some.field-0-is at c.in-Ok-Some.ensures in
    next_of c.args.net.now c.looking.agenda c.take_least.new.self c.in-Some.n.0 c.in-Ok-Some.next c.looking.invariant c.in-Some.ensures merge

pub looking-preserved : goal.looking-preserved
looking-preserved c =
    let none = rw c.in-Ok-None.field-0-is at c.in-Ok-None.ensures in
    wait_without c.args.net.now c.looking.agenda c.take_least.new.self c.in-Some.n.0 c.looking.invariant c.in-Some.ensures none
