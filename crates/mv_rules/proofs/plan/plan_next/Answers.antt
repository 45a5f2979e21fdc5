-- The rule is a narrowing.
use Rattle.mv_rules.proofs.plan.plan_next.Goals as goal

pub returns : goal.returns
returns c = rw c.in-Narrow.is c.plan_narrow_next.ensures
