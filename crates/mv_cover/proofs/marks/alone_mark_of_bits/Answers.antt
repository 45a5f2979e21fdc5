-- A set of one value is told by its count.
use Rattle.std.proofs.Common.{arith}
use Rattle.mv_cover.proofs.Marking.{alone_mark-no_bits, alone_mark-bits, alone_mark-more_bits}
use Rattle.mv_cover.proofs.marks.alone_mark_of_bits.Goals as goal

pub returns-then-bits-eq0 : goal.returns-then-bits-eq0
returns-then-bits-eq0 c = alone_mark-no_bits c.args.bits c.args.place c.if-bits-eq0.true

pub returns-then-bits-ne1 : goal.returns-then-bits-ne1
returns-then-bits-ne1 c =
    alone_mark-more_bits c.args.bits c.args.place (λ e. omega (arith, e, c.if-bits-eq0.false)) (omega (arith, c.ranges.bits.fits))
    (λ e. omega (arith, e, c.if-bits-ne1.true))

pub returns : goal.returns
returns c =
    alone_mark-bits c.args.bits c.args.place c.bit.result (λ e. omega (arith, e, c.if-bits-eq0.false)) (omega (arith, c.ranges.bits.fits))
    (omega (arith, c.if-bits-ne1.false)) c.bit.ensures
