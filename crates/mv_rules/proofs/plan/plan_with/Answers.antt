-- The rule is a narrowing.
use Rattle.mv_rules.proofs.plan.plan_with.Goals as goal

pub returns : goal.returns
returns c = rw c.in-Narrow.is (c.plan_narrow_with.ensures c.args.terms.budget (rw c.in-Narrow.is at c.requires))
