-- Nets that come leave the names that are held.
use Rattle.mv_net.proofs.MadeNames.{made_more}
use Rattle.mv_net.proofs.in_place.take_in.Goals as goal

pub take_names-requires-clause-made : goal.take_names-requires-clause-made
take_names-requires-clause-made c = made_more c.args.nets.now c.args.long c.args.kept.now.made c.requires.made
