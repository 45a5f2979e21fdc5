use Rattle.mv_rows.proofs.Rows.{rows_more}
use Rattle.mv_rows.proofs.table.few_lines.Goals as goal

pub loop-row-preserved : goal.loop-row-preserved
loop-row-preserved c =
    rows_more _ _ _ c.row-item.result _ _ _ _ c.loop-row-test.true c.row-item.is c.as_slice.ensures c.only-entry.ensures c.loop-row.invariant c.in_ok-put_row.ensures.lines
