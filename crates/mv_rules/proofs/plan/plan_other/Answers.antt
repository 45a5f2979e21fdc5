-- The rule is a division.
use Rattle.mv_rules.proofs.plan.plan_other.Goals as goal

pub returns-in-Divide : goal.returns-in-Divide
returns-in-Divide c = rw c.in-Divide.is c.plan_divide.ensures
