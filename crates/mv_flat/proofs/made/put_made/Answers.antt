use Rattle.mv_flat.proofs.MadeNames.{near}
use Rattle.mv_flat.proofs.made.put_made.Goals as goal

pub returns-clause-near : goal.returns-clause-near
returns-clause-near c = near c.args.names.now c.args.last.now c.in_ok-made.made.number c.in_ok-made.made.name c.requires c.in_ok-made.ensures
