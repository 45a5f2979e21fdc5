-- The laws are lemmas.
use Rattle.mv_blif_back.proofs.Written.{text-lines, text-clean}
use Rattle.mv_blif_back.proofs.laws.blif_text_is_read.Goals as goal

pub returns : goal.returns
returns c = record { clean = λ net bs formed said. text-clean net formed bs said; lines = λ net bs formed said. text-lines net formed bs said }
