use Rattle.std.proofs.Common.{◌≡◌, filter}
use Rattle.mv_rows.specs.Flat.{has_output}
use Rattle.mv_rows.proofs.table.kept_of_distinct.Given as goal

abbrev pub invariant-loop-line : goal.invariant-loop-line
invariant-loop-line l = l.said.items ≡ filter has_output l.yielded
