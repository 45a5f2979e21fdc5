-- Each law is a lemma.
use Rattle.mv_text.proofs.Opening.{text-opens}
use Rattle.mv_text.proofs.Resets.{latch-reset_word, latch-told}
use Rattle.mv_text.proofs.laws.text_laws.Goals as goal

pub returns : goal.returns
returns c = record { opens = text-opens; reset = latch-reset_word; latch = latch-told }
