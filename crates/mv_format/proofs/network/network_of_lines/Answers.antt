-- Where the format is BLIF the lines say the network as lines of BLIF do.
use Rattle.mv_format.proofs.network.network_of_lines.Goals as goal

pub returns-in-Blif-clause-net : goal.returns-in-Blif-clause-net
returns-in-Blif-clause-net c = rw c.in-Blif.is c.blif_network.ensures.net
