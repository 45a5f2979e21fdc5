-- The law is a lemma.
use Rattle.mv_blif_back.proofs.Whole.{reads-back}
use Rattle.mv_blif_back.proofs.laws.blif_reads_back.Goals as goal

pub returns : goal.returns
returns c = λ net bs formed binary said. reads-back net bs formed binary said
