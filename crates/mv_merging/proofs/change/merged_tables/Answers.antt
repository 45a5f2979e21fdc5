-- The net has a table, and all its readers have one.
use Rattle.mv_merging.proofs.Changing.{all_merged, held_tabled, readers_tabled}
use Rattle.mv_merging.proofs.change.merged_tables.Goals as goal

pub readers-requires : goal.readers-requires
readers-requires c = held_tabled c.args.net.now.nets c.args.n.0 c.requires.table

pub put_readers-requires-clause-tables : goal.put_readers-requires-clause-tables
put_readers-requires-clause-tables c = readers_tabled c.args.net.now.nets c.args.n.0 c.readers.result.now c.readers.ensures

pub returns : goal.returns
returns c =
    all_merged c.args.m c.args.n c.args.net.now.nets c.readers.result.now c.table_of.result.now c.in_ok-table.table c.new-all.result c.push.new.self c.put_readers.new.all c.readers.ensures c.table_of.ensures c.in_ok-table.ensures
    c.new-all.ensures c.in_ok-push.ensures.ok c.in_ok-put_readers.ensures
