use Rattle.std.proofs.Common.{take}
use Rattle.mv_codes.specs.Tables.{reader_coded}
use Rattle.mv_graph.specs.Nets.{has_id}
use Rattle.mv_coding.specs.Changes.{AreNarrow}
use Rattle.mv_readers.specs.Readers.{AreTablesFor}
use Rattle.mv_coding.proofs.change.readers_coded.Given as goal

abbrev pub invariant-loop-reader : goal.invariant-loop-reader
invariant-loop-reader l = record {
  tables : AreTablesFor l.net.nets (reader_coded l.coding) l.coding.net.0 (take l.reader-index l.readers) l.tables;
  narrow : AreNarrow l.net.nets l.coding (has_id (take l.reader-index l.readers));
}
