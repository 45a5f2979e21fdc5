use Rattle.mv_cover.proofs.Containing.{within_is}
use Rattle.mv_cover.proofs.lies.is_within.Goals as goal

pub returns : goal.returns
returns c = within_is c.within.result c.args.first.now c.args.second.now c.within.ensures
