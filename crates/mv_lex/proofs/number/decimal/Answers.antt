-- One digit more.
use Rattle.std.proofs.Common.{◌<◌, ◌^◌, sym, arith, refl}
use Rattle.mv_lex.proofs.Digits.{few, next_digit}
use Rattle.mv_lex.proofs.number.decimal.Goals as goal

pub overflow_mul-number : goal.overflow_mul-number
overflow_mul-number c =
    let small : c.loop-byte.number < 10 ^ 20 = few c.args.digits.now c.loop-byte.byte-index c.loop-byte.number c.loop-byte.invariant (omega arith) c.requires in
    omega arith

pub overflow_add-number : goal.overflow_add-number
overflow_add-number c =
    let small : c.loop-byte.number < 10 ^ 20 = few c.args.digits.now c.loop-byte.byte-index c.loop-byte.number c.loop-byte.invariant (omega arith) c.requires in
    omega arith

pub loop-byte-preserved : goal.loop-byte-preserved
loop-byte-preserved c =
    next_digit c.args.digits.now c.loop-byte.byte-index c.loop-byte.number c.from.result _ c.loop-byte.invariant c.loop-byte-test.true (sym c.if-not-is_ascii_digit.ensures.value) c.if-not-is_ascii_digit.ensures.cases c.from.ensures refl
