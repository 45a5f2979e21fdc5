use Rattle.std.proofs.Common.{◌≡◌, ◌++◌, take}
use Rattle.std.specs.List.{flat_map}
use Rattle.mv_acyclic.specs.Columns.{table_columns}
use Rattle.mv_acyclic.proofs.columns.add_tables.Given as goal

abbrev pub invariant-loop-table : goal.invariant-loop-table
invariant-loop-table l = l.columns ≡ l.fn.columns ++ flat_map (table_columns l.numbers) (take l.table-index l.tables)
