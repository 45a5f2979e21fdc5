use Rattle.mv_blif_read.proofs.Binary.{networks_binary}
use Rattle.mv_blif_read.proofs.laws.networks_are_total.Goals as goal

pub returns : goal.returns
returns c = networks_binary
