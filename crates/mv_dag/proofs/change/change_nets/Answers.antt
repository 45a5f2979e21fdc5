-- The numbers that come, and the rows.
use Rattle.mv_dag.proofs.Grown.{on_err_from}
use Rattle.mv_dag.proofs.Changed.{more_turned, readers_back}
use Rattle.mv_dag.proofs.change.change_nets.Goals as goal

pub link_rows-requires-clause-readers : goal.link_rows-requires-clause-readers
link_rows-requires-clause-readers c =
    more_turned c.args.fanins.now c.args.readers.now c.add_nets.new.fanins c.add_nets.new.readers c.args.labels.now.items c.add_nets.new.labels.items c.args.added c.requires.dag c.in_ok-add_nets.ensures.added

pub returns-in_err-link_rows-clause-err_readers : goal.returns-in_err-link_rows-clause-err_readers
returns-in_err-link_rows-clause-err_readers c =
    on_err_from c.from_residual-in_err-link_rows.result
    (readers_back c.args.fanins.now c.args.readers.now c.add_nets.new.fanins c.add_nets.new.readers c.args.labels.now.items c.add_nets.new.labels.items c.args.added c.requires.dag c.in_ok-add_nets.ensures.added c.link_rows.new.readers c.in_err-link_rows.ensures.err_readers)
