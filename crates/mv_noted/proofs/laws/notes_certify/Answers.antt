-- The law is a lemma.
use Rattle.mv_noted.proofs.Certified.{certified}
use Rattle.mv_noted.proofs.laws.notes_certify.Goals as goal

pub returns : goal.returns
returns c = certified
