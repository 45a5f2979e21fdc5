use Rattle.std.proofs.Common.{◌≡◌, take}
use Rattle.std.specs.List.{flat_map}
use Rattle.mv_shapes.specs.Shape.{column_words}
use Rattle.mv_shapes.proofs.shape.Shape.key.Given as goal

abbrev pub invariant-loop-column : goal.invariant-loop-column
invariant-loop-column l = l.key.items ≡ flat_map column_words (take l.column-index l.column-items)
