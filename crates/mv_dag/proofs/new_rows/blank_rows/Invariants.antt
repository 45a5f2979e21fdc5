use Rattle.std.proofs.Common.{◌≡◌, map, take}
use Rattle.mv_dag.specs.Changing.{blank}
use Rattle.mv_dag.proofs.new_rows.blank_rows.Given as goal

abbrev pub invariant-loop-row : goal.invariant-loop-row
invariant-loop-row l = l.blanks ≡ map blank (take l.row-index l.rows)
