-- The law is a lemma.
use Rattle.mv_blif_text.proofs.Opening.{text-opens}
use Rattle.mv_blif_text.proofs.laws.blif_text_laws.Goals as goal

pub returns : goal.returns
returns c = record { opens = text-opens }
