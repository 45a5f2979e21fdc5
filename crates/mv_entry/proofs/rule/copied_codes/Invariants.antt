use Rattle.std.proofs.Common.{◌≡◌, take}
use Rattle.mv_entry.proofs.rule.copied_codes.Given as goal

abbrev pub invariant-loop-code : goal.invariant-loop-code
invariant-loop-code l = l.copies ≡ take l.code-index l.code-items
