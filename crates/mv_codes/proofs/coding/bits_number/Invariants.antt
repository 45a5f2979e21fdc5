use Rattle.mv_codes.proofs.Numbers.{IsRead}
use Rattle.mv_codes.proofs.coding.bits_number.Given as goal

abbrev pub invariant-loop-bit : goal.invariant-loop-bit
invariant-loop-bit l = IsRead l.bits l.bit-index l.number
