-- What is read so far is the number of the bits before, which is small.
use Rattle.std.proofs.Common.{◌≡◌, ◌∙◌, ◌+◌, ◌*◌, ◌^◌, ◌<◌, false, length, get_or, sym, ap, subst, arith}
use Rattle.mv_codes.specs.Codes.{bit_number}
use Rattle.mv_codes.proofs.Numbers.{bit_low, byte_is, number_lt, read_none, read_more, read_all, read_low}
use Rattle.mv_codes.proofs.coding.bits_number.Goals as goal

pub loop-bit-init : goal.loop-bit-init
loop-bit-init c = read_none c.args.bits.now

pub loop-bit-preserved : goal.loop-bit-preserved
loop-bit-preserved c =
    let bit = get_or c.args.bits.now c.loop-bit.bit-index false in
    read_more c.args.bits.now c.loop-bit.bit-index c.loop-bit.number (2 * c.loop-bit.number + c.from.result) c.loop-bit-test.true (ap (λ b. 2 * c.loop-bit.number + b) (c.from.ensures ∙ byte_is bit)) c.loop-bit.invariant

pub overflow_mul-number : goal.overflow_mul-number
overflow_mul-number c =
    let low : c.loop-bit.number < 1024 = read_low c.args.bits.now c.loop-bit.bit-index c.loop-bit.number 10 c.requires c.loop-bit.invariant in
    omega (arith, low)

pub overflow_add-number : goal.overflow_add-number
overflow_add-number c =
    let bit = get_or c.args.bits.now c.loop-bit.bit-index false in
    let low : c.loop-bit.number < 1024 = read_low c.args.bits.now c.loop-bit.bit-index c.loop-bit.number 10 c.requires c.loop-bit.invariant in
    let is : c.from.result ≡ bit_number bit = c.from.ensures ∙ byte_is bit in
    omega (arith, low, is, bit_low bit)

pub returns-clause-low : goal.returns-clause-low
returns-clause-low c =
    subst (λ n. n < 2 ^ length c.args.bits.now) (sym (read_all c.args.bits.now c.loop-bit.bit-index c.loop-bit.number c.loop-bit-test.false c.loop-bit.invariant)) (number_lt c.args.bits.now)
