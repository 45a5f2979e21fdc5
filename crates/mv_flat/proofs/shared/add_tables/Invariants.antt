use Rattle.std.proofs.Common.{◌≡◌, ◌++◌, take}
use Rattle.mv_flat.proofs.shared.add_tables.Given as goal

abbrev pub invariant-loop-table : goal.invariant-loop-table
invariant-loop-table l = l.tables.items ≡ l.initial.tables.items ++ take l.table-index l.more
