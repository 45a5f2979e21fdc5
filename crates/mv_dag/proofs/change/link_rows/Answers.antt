-- At the end the readers go that read no more, or that have not come.
use Rattle.mv_dag.proofs.Linked.{rows_within, olds_within, turned_done}
use Rattle.mv_dag.proofs.change.link_rows.Goals as goal

pub prune-requires-clause-within : goal.prune-requires-clause-within
prune-requires-clause-within c =
    olds_within c.args.rows.now c.args.fanins.now c.args.readers.now c.requires.may c.requires.readers c.put_and_replace.new.readers c.put_and_replace.ensures.grown c.as_slice-in-Ok.result.now c.put_and_replace.new.olds c.as_slice-in-Ok.ensures c.in-Ok.ensures.olds c.requires.below

pub prune-requires-in-Err-clause-within : goal.prune-requires-in-Err-clause-within
prune-requires-in-Err-clause-within c =
    rows_within c.args.rows.now c.args.fanins.now c.args.readers.now c.requires.may c.requires.readers c.put_and_replace.new.readers c.put_and_replace.ensures.grown c.as_slice-in-Err-2.result.now c.put_and_replace.new.rows c.as_slice-in-Err-2.ensures c.in-Err.ensures.err_rows

pub returns-in-Ok-clause-readers : goal.returns-in-Ok-clause-readers
returns-in-Ok-clause-readers c =
    turned_done c.args.rows.now c.args.fanins.now c.args.readers.now c.requires.may c.requires.readers c.put_and_replace.new.readers c.put_and_replace.ensures.grown c.put_and_replace.new.fanins c.as_slice.result.now c.prune.new.readers c.as_slice-in-Ok.result.now c.put_and_replace.new.olds
    c.as_slice.ensures c.in-Ok.ensures.fanins c.as_slice-in-Ok.ensures c.in-Ok.ensures.olds c.in-Ok.ensures.readers c.prune.ensures
