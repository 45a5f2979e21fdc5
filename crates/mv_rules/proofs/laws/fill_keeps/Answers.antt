-- The law is a lemma.
use Rattle.mv_plans.proofs.Filled.{filled_means}
use Rattle.mv_rules.proofs.laws.fill_keeps.Goals as goal

pub returns : goal.returns
returns c = filled_means
