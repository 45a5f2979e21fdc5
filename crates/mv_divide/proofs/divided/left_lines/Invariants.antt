use Rattle.std.proofs.Common.{take}
use Rattle.mv_divide.specs.Grouped.{AreLeft}
use Rattle.mv_divide.proofs.divided.left_lines.Given as goal

abbrev pub invariant-loop-quotient : goal.invariant-loop-quotient
invariant-loop-quotient l = AreLeft (take l.quotient-index l.quotients) l.left.keys
