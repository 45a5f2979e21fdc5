use Rattle.std.proofs.Common.{◌≡◌, length}
use Rattle.mv_solve.proofs.parts.join_fanins.Given as goal

abbrev pub invariant-loop-m : goal.invariant-loop-m
invariant-loop-m l = length l.parts ≡ length l.initial.parts
