use Rattle.std.proofs.Common.{◌≡◌, take}
use Rattle.mv_entry.proofs.rule.copied_lines.Given as goal

abbrev pub invariant-loop-line : goal.invariant-loop-line
invariant-loop-line l = l.copies ≡ take l.line-index l.line-items
