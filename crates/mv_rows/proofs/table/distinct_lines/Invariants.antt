use Rattle.std.proofs.Common.{take}
use Rattle.mv_rows.specs.Named.{HaveLinesAmong}
use Rattle.mv_rows.specs.Once.{AreDistinct}
use Rattle.mv_rows.proofs.table.distinct_lines.Given as goal

abbrev pub invariant-loop-row : goal.invariant-loop-row
invariant-loop-row l = record {
  distinct : AreDistinct l.frame.columns (take l.row-index l.rows) l.most l.set;
  named : HaveLinesAmong l.frame.columns l.set.lines.keys l.named.keys;
}
