-- The laws are lemmas.
use Rattle.mv_blif_back.proofs.Acyclic.{model-acyclic, model-alone}
use Rattle.mv_blif_back.proofs.laws.blif_model_is_acyclic.Goals as goal

pub returns : goal.returns
returns c = record { acyclic = λ net bs formed. model-acyclic net formed bs; alone = λ net bs formed. model-alone net formed bs }
