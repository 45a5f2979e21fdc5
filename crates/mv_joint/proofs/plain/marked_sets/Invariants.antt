use Rattle.std.proofs.Common.{◌≡◌, take, map}
use Rattle.mv_base.specs.Set.{full}
use Rattle.mv_joint.proofs.plain.marked_sets.Given as goal

abbrev pub invariant-loop-column : goal.invariant-loop-column
invariant-loop-column l = l.sets.items ≡ map (λ c. full c.count) (take l.column-index l.columns)
