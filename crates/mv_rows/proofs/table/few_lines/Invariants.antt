use Rattle.std.proofs.Common.{take}
use Rattle.mv_rows.specs.Flat.{RowsLines}
use Rattle.mv_rows.proofs.table.few_lines.Given as goal

abbrev pub invariant-loop-row : goal.invariant-loop-row
invariant-loop-row l = RowsLines l.frame.columns (take l.row-index l.rows) l.lines.items
