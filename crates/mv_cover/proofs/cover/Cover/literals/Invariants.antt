use Rattle.std.proofs.Common.{◌≡◌, ◌*◌, ◌≤◌, ◌^◌, take}
use Rattle.mv_cover.specs.Covers.{literal_count}
use Rattle.mv_cover.proofs.cover.Cover.literals.Given as goal

abbrev pub invariant-loop-line : goal.invariant-loop-line
invariant-loop-line l =
    (l.total ≡ literal_count (take l.line-index l.line-items)) × (l.total ≤ 2 ^ 32 * l.line-index)
