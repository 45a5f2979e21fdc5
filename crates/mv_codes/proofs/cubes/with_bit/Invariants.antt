use Rattle.std.proofs.Common.{◌≡◌, take}
use Rattle.mv_codes.proofs.cubes.with_bit.Given as goal

abbrev pub invariant-loop-l : goal.invariant-loop-l
invariant-loop-l l = l.lits.items ≡ take l.l-index l.l-items
