use Rattle.std.proofs.Common.{◌≡◌, ℕ, take}
use Rattle.std.specs.List.{list_any}
use Rattle.mv_base.specs.Set.{has}
use Rattle.mv_cover.specs.declared.line.Line.{Line}
use Rattle.mv_alike.proofs.given.outputs.Given as goal

abbrev pub invariant-loop-line : goal.invariant-loop-line
invariant-loop-line l = (v : ℕ) → has l.all v ≡ list_any (λ (k : Line). has k.out v) (take l.line-index l.lines)
