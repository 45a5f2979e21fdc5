-- Each reader has its new table, and none is too wide; or one is.
use Rattle.std.proofs.Common.{subst}
use Rattle.mv_base.specs.declared.number.NetId.{NetId}
use Rattle.mv_codes.specs.Tables.{reader_coded}
use Rattle.mv_codes.specs.Wide.{IsTooWide}
use Rattle.mv_codes.specs.declared.coding.Coding.{Coding}
use Rattle.mv_cover.specs.declared.cover.Cover.{Cover}
use Rattle.mv_readers.proofs.Readers.{each_all, each_at, each_next, each_none, listed_table, rewritten_all, tables_none, tables_next}
use Rattle.mv_coding.proofs.change.readers_coded.Goals as goal

abbrev none : NetId
none = record { 0 = 0 }

-- what is asked of a reader's table
abbrev is_narrow : Coding → Cover → Type 0
is_narrow coding c = IsTooWide (reader_coded coding c) → ⊥

pub table_of-requires : goal.table_of-requires
table_of-requires c = listed_table c.args.net.now.nets c.args.coding.now.net.0 c.readers-readers.result.now c.loop-reader.reader-index none c.loop-reader-test.true c.readers-readers.ensures

pub returns-in-Err-clause-wide : goal.returns-in-Err-clause-wide
returns-in-Err-clause-wide c = λ e narrow.
    each_at c.args.net.now.nets c.args.coding.now.net.0 (is_narrow c.args.coding.now) c.readers-readers.result.now c.loop-reader.reader-index none c.table_of.result.now c.loop-reader-test.true c.readers-readers.ensures
    c.table_of.ensures narrow (c.in-Err.ensures.wide e)

pub loop-reader-init : goal.loop-reader-init
loop-reader-init c = record {
  tables = rw c.new-tables.ensures (tables_none c.args.net.now.nets (reader_coded c.args.coding.now) c.args.coding.now.net.0);
  narrow = each_none c.args.net.now.nets c.args.coding.now.net.0 (is_narrow c.args.coding.now);
}

pub loop-reader-preserved : goal.loop-reader-preserved
loop-reader-preserved c = record {
  tables =
      tables_next c.args.net.now.nets (reader_coded c.args.coding.now) c.args.coding.now.net.0 c.readers-readers.result.now c.loop-reader.reader-index none c.loop-reader.tables c.push.new.self c.table_of.result.now c.in-Ok.table
      c.loop-reader-test.true c.readers-readers.ensures c.table_of.ensures c.in-Ok.ensures.cover c.in-Ok-push.ensures.ok c.loop-reader.invariant.tables;
  narrow =
      each_next c.args.net.now.nets c.args.coding.now.net.0 (is_narrow c.args.coding.now) c.readers-readers.result.now c.loop-reader.reader-index none c.table_of.result.now c.loop-reader-test.true c.table_of.ensures
      (subst (λ d. IsTooWide d → ⊥) c.in-Ok.ensures.cover c.in-Ok.ensures.narrow) c.loop-reader.invariant.narrow;
}

pub returns-clause-tables : goal.returns-clause-tables
returns-clause-tables c =
    rewritten_all c.args.net.now.nets (reader_coded c.args.coding.now) c.args.coding.now.net.0 c.readers-readers.result.now c.loop-reader.reader-index c.loop-reader.tables c.loop-reader-test.false c.readers-readers.ensures
    c.loop-reader.invariant.tables

pub returns-clause-narrow : goal.returns-clause-narrow
returns-clause-narrow c =
    each_all c.args.net.now.nets c.args.coding.now.net.0 (is_narrow c.args.coding.now) c.readers-readers.result.now c.loop-reader.reader-index c.loop-reader-test.false c.readers-readers.ensures c.loop-reader.invariant.narrow
