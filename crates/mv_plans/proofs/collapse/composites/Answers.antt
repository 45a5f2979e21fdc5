-- Each reader has its composite, and none is too wide; or one is.
use Rattle.std.proofs.Common.{List, Option, map, sym}
use Rattle.mv_base.specs.declared.number.NetId.{NetId}
use Rattle.mv_composite.specs.Composite.{composed}
use Rattle.mv_composite.specs.Wide.{IsTooWide}
use Rattle.mv_composite.specs.declared.inner.Inner.{Inner}
use Rattle.mv_cover.specs.declared.cover.Cover.{Cover}
use Rattle.mv_net.specs.declared.parts.FlatNet.{FlatNet}
use Rattle.mv_net.specs.Nets.{values_in}
use Rattle.mv_plans.proofs.Collapsed.{is_inner, readers_over}
use Rattle.mv_readers.proofs.Readers.{each_at, each_next, each_none, listed_table, tables_none, tables_next}
use Rattle.mv_plans.proofs.collapse.composites.Goals as goal

abbrev none : NetId
none = record { 0 = 0 }

-- what is asked of a reader's composite
abbrev is_narrow : List (Option FlatNet) → Inner → Cover → Type 0
is_narrow nets inner c = IsTooWide (map values_in nets) inner c → ⊥

pub table_of-requires : goal.table_of-requires
table_of-requires c = listed_table c.args.net.now.nets c.args.inner.now.net.0 c.readers-readers.result.now c.loop-reader.reader-index none c.loop-reader-test.true c.readers-readers.ensures

pub compose-requires-clause-inner : goal.compose-requires-clause-inner
compose-requires-clause-inner c = rw (sym c.counts.ensures) at (is_inner c.args.net.now c.args.inner.now c.well_formed-2.ensures c.requires)

pub compose-requires-clause-reader : goal.compose-requires-clause-reader
compose-requires-clause-reader c =
    rw (sym c.counts.ensures) at
    (readers_over c.args.net.now c.args.inner.now.net.0 c.readers-readers.result.now c.loop-reader.reader-index none c.table_of.result.now c.well_formed-2.ensures c.loop-reader-test.true c.readers-readers.ensures c.table_of.ensures)

pub returns-in-Err-clause-wide : goal.returns-in-Err-clause-wide
returns-in-Err-clause-wide c = λ e narrow.
    each_at c.args.net.now.nets c.args.inner.now.net.0 (is_narrow c.args.net.now.nets c.args.inner.now) c.readers-readers.result.now c.loop-reader.reader-index none c.table_of.result.now c.loop-reader-test.true
    c.readers-readers.ensures c.table_of.ensures narrow (rw c.counts.ensures at (c.in-Err.ensures.wide e))

pub loop-reader-init : goal.loop-reader-init
loop-reader-init c = record {
  tables = rw c.new-tables.ensures (tables_none c.args.net.now.nets (composed (map values_in c.args.net.now.nets) c.args.inner.now) c.args.inner.now.net.0);
  narrow = each_none c.args.net.now.nets c.args.inner.now.net.0 (is_narrow c.args.net.now.nets c.args.inner.now);
}

pub loop-reader-preserved : goal.loop-reader-preserved
loop-reader-preserved c = record {
  tables =
      tables_next c.args.net.now.nets (composed (map values_in c.args.net.now.nets) c.args.inner.now) c.args.inner.now.net.0 c.readers-readers.result.now c.loop-reader.reader-index none c.loop-reader.tables c.push.new.self
      c.table_of.result.now c.in-Ok.table c.loop-reader-test.true c.readers-readers.ensures c.table_of.ensures (rw c.counts.ensures at c.in-Ok.ensures.cover) c.in-Ok-push.ensures.ok c.loop-reader.invariant.tables;
  narrow =
      each_next c.args.net.now.nets c.args.inner.now.net.0 (is_narrow c.args.net.now.nets c.args.inner.now) c.readers-readers.result.now c.loop-reader.reader-index none c.table_of.result.now c.loop-reader-test.true
      c.table_of.ensures (rw c.counts.ensures at c.in-Ok.ensures.narrow) c.loop-reader.invariant.narrow;
}
