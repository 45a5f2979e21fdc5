-- The other lines of those so far.
use Rattle.std.proofs.Common.{◌≡◌, not, nat_eq, take}
use Rattle.std.specs.List.{filter}
use Rattle.mv_cover.specs.declared.line.Line.{Line}
use Rattle.mv_default.proofs.taking.other_lines.Given as goal

abbrev pub invariant-loop-line : goal.invariant-loop-line
invariant-loop-line l = l.others ≡ filter (λ (k : Line). not (nat_eq k.out l.out)) (take l.line-index l.lines)
