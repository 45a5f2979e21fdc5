use Rattle.std.proofs.Common.{◌≡◌, take}
use Rattle.mv_meets.proofs.children.with_literal.Given as goal

abbrev pub invariant-loop-kept : goal.invariant-loop-kept
invariant-loop-kept l = l.lits.items ≡ take l.kept-index l.kept-items
