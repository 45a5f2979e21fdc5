use Rattle.std.proofs.Common.{◌≡◌, length}
use Rattle.mv_solve.proofs.parts.find_parts.Given as goal

abbrev pub invariant-loop-n : goal.invariant-loop-n
invariant-loop-n l = length l.parts ≡ length l.initial.parts
