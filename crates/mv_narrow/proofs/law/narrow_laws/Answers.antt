-- The law is a lemma.
use Rattle.mv_narrow.proofs.Windows.{lawful_refines}
use Rattle.mv_narrow.proofs.law.narrow_laws.Goals as goal

pub returns : goal.returns
returns c = lawful_refines
