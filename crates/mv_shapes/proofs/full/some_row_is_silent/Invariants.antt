use Rattle.std.proofs.Common.{◌≡◌, drop}
use Rattle.mv_shapes.specs.Rows.{some_silent}
use Rattle.mv_shapes.proofs.full.some_row_is_silent.Given as goal

abbrev pub invariant-loop-row : goal.invariant-loop-row
invariant-loop-row l = some_silent (drop l.row-index l.rows) ≡ some_silent l.rows
