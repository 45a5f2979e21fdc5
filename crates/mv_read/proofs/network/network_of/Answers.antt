-- A design that lines say is proper.
use Rattle.mv_parse_laws.proofs.Proper.{proper}
use Rattle.mv_read.proofs.network.network_of.Goals as goal

pub flatten_owned-requires : goal.flatten_owned-requires
flatten_owned-requires c = proper c.args.lines c.in-Ok.design c.requires c.in-Ok.ensures.ok c.in-Ok.ensures.within
