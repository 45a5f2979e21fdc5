-- The columns fit the table, also with the mark's number behind them.
use Rattle.mv_flat.proofs.Passing.{own_stops}
use Rattle.mv_flat.proofs.Unmarked.{own_columns, own_marked, own_table, own_unread}
use Rattle.mv_flat.proofs.covers.single_covers.Goals as goal

pub flat_table-requires-clause-columns : goal.flat_table-requires-clause-columns
flat_table-requires-clause-columns c = own_columns c.args.names.now c.args.table.now c.args.columns.now c.requires.columns

pub flat_table-requires-clause-with_mark : goal.flat_table-requires-clause-with_mark
flat_table-requires-clause-with_mark c = own_marked c.args.names.now c.args.table.now c.args.columns.now c.in_ok-mark.mark c.requires.columns c.in_ok-mark.ensures

pub flat_table-requires-clause-unread : goal.flat_table-requires-clause-unread
flat_table-requires-clause-unread c = λ _. own_unread c.args.names.now c.args.table.now c.args.columns.now c.in_ok-mark.mark c.requires.columns c.in_ok-mark.ensures

pub flat_table-requires-clause-table : goal.flat_table-requires-clause-table
flat_table-requires-clause-table c = own_table c.args.names.now c.args.table.now c.args.columns.now c.requires.columns c.requires.single

pub returns-in-Err-clause-stop : goal.returns-in-Err-clause-stop
returns-in-Err-clause-stop c =
    own_stops c.args.names.now c.args.table.now c.args.columns.now c.in_ok-mark.mark c.args.most c.in-Err.stop c.requires.columns c.requires.single c.in_ok-mark.ensures c.in-Err.ensures.stop
