use Rattle.mv_blif_read.proofs.Binary.{tables_one}
use Rattle.mv_blif_read.proofs.laws.tables_allow_one.Goals as goal

pub returns : goal.returns
returns c = λ lines b n k up h e. tables_one lines b up h n k e
