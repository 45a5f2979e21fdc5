-- The law is a lemma.
use Rattle.mv_blif_back.proofs.Beginning.{latch-begins}
use Rattle.mv_blif_back.proofs.laws.blif_latches_begin.Goals as goal

pub returns : goal.returns
returns c = λ net bs value k r l b h formed at said name. latch-begins net formed value r bs k l b h name at said
