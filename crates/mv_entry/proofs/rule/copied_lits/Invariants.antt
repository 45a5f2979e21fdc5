use Rattle.std.proofs.Common.{◌≡◌, take}
use Rattle.mv_entry.proofs.rule.copied_lits.Given as goal

abbrev pub invariant-loop-literal : goal.invariant-loop-literal
invariant-loop-literal l = l.copies ≡ take l.literal-index l.literal-items
