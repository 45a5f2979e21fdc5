-- A design that lines say is proper.
use Rattle.mv_blif_laws.proofs.Proper.{proper}
use Rattle.mv_blif_read.proofs.network.blif_network_of.Goals as goal

pub flatten_owned-requires : goal.flatten_owned-requires
flatten_owned-requires c = proper c.args.lines c.in-Ok.read c.requires c.in-Ok.ensures.ok c.in-Ok.ensures.within
