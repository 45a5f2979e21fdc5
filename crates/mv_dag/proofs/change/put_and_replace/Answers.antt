-- The lists of readers have all that come before a row does.
use Rattle.mv_dag.proofs.Linked.{rows_small, rows_ready, rows_readers}
use Rattle.mv_dag.proofs.change.put_and_replace.Goals as goal

pub put_rows-requires-clause-within : goal.put_rows-requires-clause-within
put_rows-requires-clause-within c = rw c.as_slice.ensures (rows_small c.args.rows.now c.args.fanins.now c.args.readers.now c.requires.may c.requires.readers)

pub replace_rows-requires-clause-ready : goal.replace_rows-requires-clause-ready
replace_rows-requires-clause-ready c =
    rows_ready c.args.rows.now c.args.fanins.now c.args.readers.now c.requires.may c.requires.readers c.put_rows.new.readers c.as_slice.result.now c.as_slice.ensures c.put_rows.ensures.grown c.in_ok-put_rows.ensures.ok c.args.labels.now c.as_slice-2.result.now c.as_slice-2.ensures c.requires.ordered

pub returns-clause-readers : goal.returns-clause-readers
returns-clause-readers c =
    rows_readers c.args.rows.now c.args.fanins.now c.args.readers.now c.requires.may c.requires.readers c.put_rows.new.readers c.as_slice.result.now c.as_slice.ensures c.put_rows.ensures.grown c.in_ok-put_rows.ensures.ok c.replace_rows.new.fanins c.in_ok-replace_rows.ensures.fanins
