-- Each law is a lemma.
use Rattle.mv_meaning.proofs.Adding.{added_formed, added_means}
use Rattle.mv_meaning.proofs.laws.adding_laws.Goals as goal

pub returns : goal.returns
returns c = record { formed = added_formed; means = added_means }
