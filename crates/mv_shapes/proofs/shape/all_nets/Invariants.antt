use Rattle.std.proofs.Common.{◌≡◌, map, take}
use Rattle.mv_shapes.specs.Shape.{column_net}
use Rattle.mv_shapes.proofs.shape.all_nets.Given as goal

abbrev pub invariant-loop-column : goal.invariant-loop-column
invariant-loop-column l = l.nets.items ≡ map column_net (take l.column-index l.columns)
