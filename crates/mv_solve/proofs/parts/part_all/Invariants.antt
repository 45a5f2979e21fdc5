use Rattle.std.proofs.Common.{◌≡◌, length}
use Rattle.mv_solve.proofs.parts.part_all.Given as goal

abbrev pub invariant-loop-number : goal.invariant-loop-number
invariant-loop-number l = length l.parts ≡ length l.initial.parts
