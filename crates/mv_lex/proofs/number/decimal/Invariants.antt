use Rattle.mv_lex.proofs.Digits.{IsRead}
use Rattle.mv_lex.proofs.number.decimal.Given as goal

abbrev pub invariant-loop-byte : goal.invariant-loop-byte
invariant-loop-byte l = IsRead l.digits l.byte-index l.number
