use Rattle.std.proofs.Common.{take}
use Rattle.mv_composite.specs.Wired.{wired}
use Rattle.mv_readers.specs.Readers.{AreTablesFor}
use Rattle.mv_plans.proofs.wire.wired_readers.Given as goal

abbrev pub invariant-loop-reader : goal.invariant-loop-reader
invariant-loop-reader l = AreTablesFor l.net.nets (wired l.n.0 l.source.0) l.n.0 (take l.reader-index l.readers) l.tables
