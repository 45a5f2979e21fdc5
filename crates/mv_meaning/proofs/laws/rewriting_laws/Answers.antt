-- Each law is a lemma.
use Rattle.mv_meaning.proofs.Rewired.{rewritten_formed, rewritten_means}
use Rattle.mv_meaning.proofs.laws.rewriting_laws.Goals as goal

pub returns : goal.returns
returns c = record { formed = rewritten_formed; means = rewritten_means }
