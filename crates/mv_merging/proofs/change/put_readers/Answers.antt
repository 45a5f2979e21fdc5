-- Each reader has its new table.
use Rattle.std.proofs.Common.{◌∙◌, ◌++◌, ap, map}
use Rattle.std.proofs.lemmas.List.{take_all}
use Rattle.mv_base.specs.declared.number.NetId.{NetId}
use Rattle.mv_merging.specs.Changes.{reader_table}
use Rattle.mv_merging.proofs.Changing.{reader_more}
use Rattle.mv_merging.proofs.change.put_readers.Goals as goal

abbrev none : NetId
none = record { 0 = 0 }

pub table_of-requires : goal.table_of-requires
table_of-requires c = c.requires.tables c.loop-reader.reader-index none c.loop-reader-test.true

pub loop-reader-preserved : goal.loop-reader-preserved
loop-reader-preserved c =
    reader_more c.args.m c.args.n c.args.net.now.nets c.args.readers.now c.loop-reader.reader-index none c.table_of.result.now c.in_ok-table.table c.args.all.now c.loop-reader.all c.push.new.self c.loop-reader-test.true
    c.table_of.ensures c.in_ok-table.ensures c.loop-reader.invariant c.in_ok-push.ensures.ok

pub returns : goal.returns
returns c =
    c.loop-reader.invariant
    ∙ ap (λ l. c.args.all.now ++ map (reader_table c.args.m c.args.n c.args.net.now.nets) l) (take_all c.loop-reader.reader-index c.args.readers.now c.loop-reader-test.false)
