use Rattle.std.proofs.Common.{◌≡◌, map, take}
use Rattle.mv_base.specs.Set.{full}
use Rattle.mv_rows.proofs.table.default_sets.Given as goal

abbrev pub invariant-loop-column : goal.invariant-loop-column
invariant-loop-column l = l.sets.items ≡ map (λ c. full c.count) (take l.column-index l.columns)
