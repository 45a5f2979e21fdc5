use Rattle.std.proofs.Common.{◌≡◌, take}
use Rattle.mv_rows.specs.Columns.{placed}
use Rattle.mv_rows.proofs.column.with_places.Given as goal

abbrev pub invariant-loop-place : goal.invariant-loop-place
invariant-loop-place l = l.order.items ≡ placed 0 (take l.place l.columns)
