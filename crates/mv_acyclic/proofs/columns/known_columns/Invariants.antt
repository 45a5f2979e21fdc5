use Rattle.std.proofs.Common.{◌≡◌, ◌+◌, ◌++◌, [], length, replicate, take, true}
use Rattle.std.specs.List.{flat_map, list_all}
use Rattle.mv_acyclic.specs.Columns.{table_columns}
use Rattle.mv_acyclic.specs.Glance.{inputs_known}
use Rattle.mv_acyclic.proofs.columns.known_columns.Given as goal

abbrev pub invariant-loop-table : goal.invariant-loop-table
invariant-loop-table l =
    (l.columns ≡ replicate (length l.model.inputs + length l.model.latches) [] ++ flat_map (table_columns l.numbers) (take l.table-index l.model.tables))
    × (list_all (inputs_known l.numbers) (take l.table-index l.model.tables) ≡ true)
