-- Each reader has its new table.
use Rattle.mv_base.specs.declared.number.NetId.{NetId}
use Rattle.mv_composite.specs.Wired.{wired}
use Rattle.mv_readers.proofs.Readers.{listed_table, tables_next}
use Rattle.mv_plans.proofs.wire.wired_readers.Goals as goal

abbrev none : NetId
none = record { 0 = 0 }

pub table_of-requires : goal.table_of-requires
table_of-requires c = listed_table c.args.net.now.nets c.args.n.0 c.readers-readers.result.now c.loop-reader.reader-index none c.loop-reader-test.true c.readers-readers.ensures

pub loop-reader-preserved : goal.loop-reader-preserved
loop-reader-preserved c =
    tables_next c.args.net.now.nets (wired c.args.n.0 c.args.source.0) c.args.n.0 c.readers-readers.result.now c.loop-reader.reader-index none c.loop-reader.tables c.push.new.self c.table_of.result.now
    c.in_ok-table.table c.loop-reader-test.true c.readers-readers.ensures c.table_of.ensures c.in_ok-table.ensures.cover c.in_ok-push.ensures.ok c.loop-reader.invariant
