use Rattle.std.proofs.Common.{◌≡◌, take}
use Rattle.mv_divide.proofs.divided.with_one.Given as goal

abbrev pub invariant-loop-literal : goal.invariant-loop-literal
invariant-loop-literal l = l.lits.items ≡ take l.literal-index l.literal-items
