-- A net has one made name at most, and no other number's.
use Rattle.std.proofs.Common.{arith}
use Rattle.mv_net.proofs.MadeNames.{other_number}
use Rattle.mv_net.proofs.made.lowered.Goals.{else-number-gt0-via-then-number-gt0+else-number-made, else-number-gt0-via-else-number-gt0}
use Rattle.mv_net.proofs.made.lowered.Goals as goal

pub returns-then-number-made-clause-others : goal.returns-then-number-made-clause-others
returns-then-number-made-clause-others c = λ k some low.
    other_number c.args.net.now c.in-Some.held c.bytes.result.now c.in-Some-made_number.number k c.in-Some.is c.bytes.ensures c.in-Some-made_number.ensures.some c.in-Some-made_number.ensures.small
    (omega (arith, c.if-number-made.true, c.ranges.made.fits)) (λ e. omega (arith, e, c.if-number-gt0.true))

pub returns-else-number-gt0-clause-others : goal.returns-else-number-gt0-clause-others
returns-else-number-gt0-clause-others c = λ k some low.
    other_number c.args.net.now c.in-Some.held c.bytes.result.now c.in-Some-made_number.number k c.in-Some.is c.bytes.ensures c.in-Some-made_number.ensures.some c.in-Some-made_number.ensures.small
    (omega (arith, c.ranges.made.fits)) (λ e. omega (arith, e, c.else-number-gt0.either))
