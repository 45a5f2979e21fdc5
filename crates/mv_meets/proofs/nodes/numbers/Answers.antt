use Rattle.std.proofs.Common.{◌+◌, sym, subst}
use Rattle.mv_meets.specs.Search.{AreNumbers}
use Rattle.mv_meets.proofs.Places.{numbers_more}
use Rattle.mv_meets.proofs.nodes.numbers.Goals as goal

pub loop-number-preserved : goal.loop-number-preserved
loop-number-preserved c =
    subst (AreNumbers (c.loop-number.number + 1)) (sym c.in_ok-push.ensures.items) (numbers_more c.loop-number.number c.loop-number.list.items c.loop-number.invariant)
