-- Each law is a lemma.
use Rattle.mv_meaning.proofs.Wiring.{wired_formed, wired_means}
use Rattle.mv_meaning.proofs.laws.wiring_laws.Goals as goal

pub returns : goal.returns
returns c = record { formed = wired_formed; means = wired_means }
