-- Each law is a lemma.
use Rattle.mv_chosen.proofs.Choosing.{fixed_means}
use Rattle.mv_chosen.proofs.Resets.{always_refined}
use Rattle.mv_chosen.proofs.laws.reset_laws.Goals as goal

pub returns : goal.returns
returns c = record { means = fixed_means; always = always_refined }
