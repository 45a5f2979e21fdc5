-- What is left of the cubes, in order, is the quotient.
use Rattle.std.proofs.Common.{sym}
use Rattle.mv_divide.proofs.Dividing.{quotient_is}
use Rattle.mv_divide.proofs.dividend.Dividend.quotient.Goals as goal

pub returns : goal.returns
returns c =
    quotient_is c.args.self.now c.args.divisor.now c.index-divisor-0.result c.in_ok-all_left.field-0.items c.in_order.result.items c.in_ok-all_left.ensures.formed (0, c.requires, sym c.index-divisor-0.is) c.in_ok-all_left.ensures.left c.in_order.ensures.ascending c.in_order.ensures.same
