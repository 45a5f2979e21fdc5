use Rattle.std.proofs.Common.{◌≤◌, length}
use Rattle.mv_design.specs.ByLine.{before_line}
use Rattle.mv_unfold.proofs.reset_tables.count_before.Given as goal

abbrev pub invariant-loop-count : goal.invariant-loop-count
invariant-loop-count l = l.count ≤ length (before_line (λ t. t.line) l.line l.tables)
