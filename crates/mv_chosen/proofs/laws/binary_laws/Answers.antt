-- Each law is a lemma.
use Rattle.mv_chosen.proofs.Binary.{binary_takes}
use Rattle.mv_chosen.proofs.Written.{written_chosen}
use Rattle.mv_chosen.proofs.laws.binary_laws.Goals as goal

pub returns : goal.returns
returns c = record { takes = binary_takes; chosen = written_chosen }
