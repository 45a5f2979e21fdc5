-- Where each net is driven once, none is left out.
use Rattle.mv_acyclic.proofs.Driven.{driven_gathered}
use Rattle.mv_acyclic.proofs.drivers.driven.Goals as goal

pub returns : goal.returns
returns c = rw (c.in_ok-add_drivers.ensures, c.in_ok-driven.ensures) (driven_gathered c.args.model.now c.requires)
