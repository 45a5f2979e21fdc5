use Rattle.std.proofs.Common.{◌≡◌, take, false}
use Rattle.std.specs.List.{list_any}
use Rattle.mv_rows.specs.Marked.{is_silent}
use Rattle.mv_rows.proofs.looks.some_row_is_silent.Given as goal

abbrev pub invariant-loop-row : goal.invariant-loop-row
invariant-loop-row l = list_any (is_silent l.frame.columns) (take l.row-index l.rows) ≡ false
