use Rattle.std.proofs.Common.{◌≡◌, ◌<◌, length, map, take, All}
use Rattle.mv_rows.specs.declared.column.Column.{Column}
use Rattle.mv_shapes.specs.Shape.{column_over}
use Rattle.mv_shapes.proofs.shape.placed.Given as goal

abbrev pub invariant-loop-column : goal.invariant-loop-column
invariant-loop-column l =
    record {
      are : map (column_over l.nets) l.made.items ≡ take l.column-index l.columns;
      low : All (λ (c : Column). c.net.0 < length l.nets) l.made.items;
    }
