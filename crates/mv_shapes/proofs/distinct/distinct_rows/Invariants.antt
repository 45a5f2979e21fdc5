use Rattle.mv_shapes.proofs.RowKeys.{AreKept}
use Rattle.mv_shapes.proofs.distinct.distinct_rows.Given as goal

abbrev pub invariant-loop-row : goal.invariant-loop-row
invariant-loop-row l = AreKept l.rows l.list l.row-index l.keys.keys
