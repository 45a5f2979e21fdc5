-- The bits so far, and behind them those that are left, are all bits.
use Rattle.std.proofs.Common.{◌≡◌, ◌++◌, ◌==◌, drop, map}
use Rattle.mv_step.proofs.encoding.code_of.Given as goal

abbrev pub invariant-loop-byte : goal.invariant-loop-byte
invariant-loop-byte l = l.bits ++ map (λ b. b == 49) (drop l.byte-index l.word) ≡ map (λ b. b == 49) l.word
