-- The rule is a narrowing.
use Rattle.mv_rules.proofs.plan.plan.Goals as goal

pub returns-in-Narrow : goal.returns-in-Narrow
returns-in-Narrow c = rw c.in-Narrow.is c.plan_narrow.ensures
