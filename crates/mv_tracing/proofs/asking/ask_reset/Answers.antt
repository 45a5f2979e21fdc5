-- One value is asked, or none.
use Rattle.mv_tracing.proofs.Giving.{gives_none, gives_one}
use Rattle.mv_tracing.proofs.asking.ask_reset.Goals as goal

pub give-requires : goal.give-requires
give-requires c = (rw c.in-Some.is at c.requires).0

pub returns-in-Some : goal.returns-in-Some
returns-in-Some c = rw c.in-Some.is (gives_one _ _ _ _ c.give.ensures.order c.give.ensures.asked)

pub returns-in-None : goal.returns-in-None
returns-in-None c = rw c.in-None.is (gives_none _)
