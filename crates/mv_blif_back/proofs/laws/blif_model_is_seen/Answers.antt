-- The law is a lemma of the network and one of its written tables.
use Rattle.std.proofs.Common.{sym, ◌∙◌}
use Rattle.mv_blif_back.specs.Said.{inits}
use Rattle.mv_blif_back.proofs.Interfaces.{same-interface}
use Rattle.mv_blif_back.proofs.WrittenNets.{written-interface}
use Rattle.mv_blif_back.proofs.laws.blif_model_is_seen.Goals as goal

pub returns : goal.returns
returns c = λ net bs formed binary said. same-interface net formed bs binary said ∙ sym (written-interface net (inits bs))
