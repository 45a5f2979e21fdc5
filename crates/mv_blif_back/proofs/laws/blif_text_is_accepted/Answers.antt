-- The laws are lemmas.
use Rattle.mv_blif_back.proofs.Accepted.{text-within}
use Rattle.mv_blif_back.proofs.Sayings.{text-is_design}
use Rattle.mv_blif_back.proofs.laws.blif_text_is_accepted.Goals as goal

pub returns : goal.returns
returns c = record { accepted = text-is_design; within = text-within }
