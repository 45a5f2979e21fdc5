use Rattle.mv_blif_read.proofs.OneNetwork.{one_network}
use Rattle.mv_blif_read.proofs.laws.at_most_one_network.Goals as goal

pub returns : goal.returns
returns c = one_network
