-- The law is a lemma.
use Rattle.mv_rules.proofs.Partials.{narrowed_partial}
use Rattle.mv_rules.proofs.laws.narrowing_keeps_partial.Goals as goal

pub returns : goal.returns
returns c = narrowed_partial
