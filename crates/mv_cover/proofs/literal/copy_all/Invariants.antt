use Rattle.std.proofs.Common.{◌≡◌, ◌++◌, take}
use Rattle.mv_cover.proofs.literal.copy_all.Given as goal

abbrev pub invariant-loop-l : goal.invariant-loop-l
invariant-loop-l l = l.copies.items ≡ l.initial.copies.items ++ take l.l-index l.lits
