-- The columns fit the table.
use Rattle.mv_flat.proofs.Unmarked.{own_columns, own_table}
use Rattle.mv_flat.proofs.covers.sized_covers.Goals as goal

pub past-requires-clause-columns : goal.past-requires-clause-columns
past-requires-clause-columns c = own_columns c.args.names.now c.args.table.now c.args.columns.now c.requires.columns

pub past-requires-clause-table : goal.past-requires-clause-table
past-requires-clause-table c = own_table c.args.names.now c.args.table.now c.args.columns.now c.requires.columns c.requires.single
