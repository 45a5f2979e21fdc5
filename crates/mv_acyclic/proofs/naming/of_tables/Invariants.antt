use Rattle.std.proofs.Common.{◌≡◌, take, map}
use Rattle.mv_design.specs.Nets.{table_naming}
use Rattle.mv_acyclic.proofs.naming.of_tables.Given as goal

abbrev pub invariant-loop-table : goal.invariant-loop-table
invariant-loop-table l = l.all.items ≡ map table_naming (take l.table-index l.tables)
