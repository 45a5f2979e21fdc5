use Rattle.std.proofs.Common.{◌≡◌, take}
use Rattle.mv_cover.proofs.literal.copies_of.Given as goal

abbrev pub invariant-loop-l : goal.invariant-loop-l
invariant-loop-l l = l.copies.items ≡ take l.l-index l.lits
