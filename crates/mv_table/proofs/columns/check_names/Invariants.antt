use Rattle.std.proofs.Common.{◌≡◌, ◌+◌, drop}
use Rattle.mv_table.specs.Columns.{names_faults}
use Rattle.mv_table.proofs.columns.check_names.Given as goal

abbrev pub invariant-loop-at : goal.invariant-loop-at
invariant-loop-at l = names_faults l.number (l.before + l.at) (drop l.at l.names) ≡ names_faults l.number l.before l.names
