-- The rule is a narrowing.
use Rattle.mv_rules.proofs.plan.plan_within.Goals as goal

pub returns : goal.returns
returns c = rw c.in-Narrow.is c.plan_narrow_within.ensures
