use Rattle.std.proofs.Common.{map, take}
use Rattle.mv_composite.specs.Composite.{composed}
use Rattle.mv_graph.specs.Nets.{has_id}
use Rattle.mv_net.specs.Nets.{values_in}
use Rattle.mv_plans.specs.Collapsing.{AreNarrow}
use Rattle.mv_readers.specs.Readers.{AreTablesFor}
use Rattle.mv_plans.proofs.collapse.composites.Given as goal

abbrev pub invariant-loop-reader : goal.invariant-loop-reader
invariant-loop-reader l = record {
  tables : AreTablesFor l.net.nets (composed (map values_in l.net.nets) l.inner) l.inner.net.0 (take l.reader-index l.readers) l.tables;
  narrow : AreNarrow l.net.nets l.inner (has_id (take l.reader-index l.readers));
}
