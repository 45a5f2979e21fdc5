use Rattle.std.proofs.Common.{◌≡◌, drop}
use Rattle.mv_shapes.specs.Rows.{some_full}
use Rattle.mv_shapes.proofs.full.some_row_is_full.Given as goal

abbrev pub invariant-loop-row : goal.invariant-loop-row
invariant-loop-row l = some_full l.counts (drop l.row-index l.rows) ≡ some_full l.counts l.rows
