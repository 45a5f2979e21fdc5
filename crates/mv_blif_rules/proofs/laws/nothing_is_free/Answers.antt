-- The law is a lemma.
use Rattle.mv_blif_rules.proofs.Strict.{total_strict}
use Rattle.mv_blif_rules.proofs.laws.nothing_is_free.Goals as goal

pub returns : goal.returns
returns c = total_strict
