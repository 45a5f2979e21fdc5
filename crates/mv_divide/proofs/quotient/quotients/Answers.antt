-- One quotient more.
use Rattle.std.proofs.Common.{List, ◌+◌, take, sym, subst}
use Rattle.mv_divide.specs.declared.quotient.Quotient.{Quotient}
use Rattle.mv_divide.specs.Tables.{AreQuotients}
use Rattle.mv_divide.proofs.Leaving.{quotients_more}
use Rattle.mv_divide.proofs.quotient.quotients.Goals as goal

pub loop-part-preserved : goal.loop-part-preserved
loop-part-preserved c =
    subst (λ (qs : List Quotient). AreQuotients (take (c.loop-part.part-index + 1) c.args.parts.now) c.args.divisor.now qs) (sym c.in_ok-push.ensures.items)
    (quotients_more c.args.parts.now c.loop-part.part-index c.part-item.result c.args.divisor.now c.loop-part.quotients.items c.in_ok-quotient_of.field-0 c.loop-part-test.true c.part-item.is (sym c.in_ok-quotient_of.ensures.out) c.in_ok-quotient_of.ensures.cubes c.loop-part.invariant)
