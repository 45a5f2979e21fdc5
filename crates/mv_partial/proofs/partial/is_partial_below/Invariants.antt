-- From the readers so far on all tables are total.
use Rattle.std.proofs.Common.{take}
use Rattle.mv_partial.proofs.Marking.{AreTotalDown}
use Rattle.mv_partial.proofs.partial.is_partial_below.Given as goal

abbrev pub invariant-loop-reader : goal.invariant-loop-reader
invariant-loop-reader l = AreTotalDown l.net.nets (take l.reader-index l.reader-items)
