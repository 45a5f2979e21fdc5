use Rattle.std.proofs.Common.{◌≡◌, take, false}
use Rattle.mv_rows.specs.Marked.{some_row_bare}
use Rattle.mv_rows.proofs.looks.some_row_is_bare.Given as goal

abbrev pub invariant-loop-row : goal.invariant-loop-row
invariant-loop-row l = some_row_bare l.frame.columns (take l.row-index l.rows) ≡ false
