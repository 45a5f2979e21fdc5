use Rattle.std.proofs.Common.{refl}
use Rattle.mv_cover.proofs.WideMarks.{low-few}
use Rattle.mv_cover.proofs.wide.low_values.Goals as goal

pub returns-in-None : goal.returns-in-None
returns-in-None c = absurd (low-few c.args.set c.full.result c.meet.result c.full.ensures c.meet.ensures (c.in-None.ensures.none refl))
