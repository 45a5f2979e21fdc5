use Rattle.std.proofs.Common.{◌≡◌, length}
use Rattle.mv_solve.proofs.parts.clear.Given as goal

abbrev pub invariant-loop-number : goal.invariant-loop-number
invariant-loop-number l = length l.heads ≡ length l.initial.heads
