use Rattle.std.proofs.Common.{◌≡◌, ◌*◌, ◌^◌, ◌≤◌, take}
use Rattle.mv_divide.specs.Numbers.{cube_number}
use Rattle.mv_divide.proofs.number.cube_number.Given as goal

abbrev pub invariant-loop-literal : goal.invariant-loop-literal
invariant-loop-literal l = (l.sum ≡ cube_number (take l.literal-index l.literal-items)) × (l.sum ≤ l.literal-index * 2 ^ 64)
