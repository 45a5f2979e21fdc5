-- A set of one value is told by its count.
use Rattle.std.proofs.Common.{refl, arith}
use Rattle.mv_cover.proofs.Marking.{alone_mark-none, alone_mark-one, alone_mark-many}
use Rattle.mv_cover.proofs.marks.alone_mark_of_set.Goals as goal

pub returns-in_default : goal.returns-in_default
returns-in_default c = alone_mark-none c.args.set c.args.place (c.in_default.ensures.none.0 refl)

pub returns-then-count-ne1 : goal.returns-then-count-ne1
returns-then-count-ne1 c =
    alone_mark-many c.args.set c.in-Some.value.0 c.args.place c.in-Some.ensures.some (λ e. omega (arith, e, c.count.ensures.value, c.if-count-ne1.true))

pub returns : goal.returns
returns c =
    alone_mark-one c.args.set c.in-Some.value.0 c.args.place c.bit.result c.in-Some.ensures.some (omega (arith, c.count.ensures.value, c.if-count-ne1.false)) c.bit.ensures
