use Rattle.std.proofs.Common.{take}
use Rattle.mv_dag.specs.Readers.{HasAll, IsGrown, is_given}
use Rattle.mv_dag.proofs.readers.put_rows.Given as goal

abbrev pub invariant-loop-row : goal.invariant-loop-row
invariant-loop-row l = IsGrown l.initial.readers l.readers (is_given (take l.row-index l.rows)) × HasAll l.readers (is_given (take l.row-index l.rows))
