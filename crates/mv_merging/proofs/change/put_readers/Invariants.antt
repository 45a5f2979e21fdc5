use Rattle.std.proofs.Common.{◌≡◌, ◌++◌, take, map}
use Rattle.mv_merging.specs.Changes.{reader_table}
use Rattle.mv_merging.proofs.change.put_readers.Given as goal

abbrev pub invariant-loop-reader : goal.invariant-loop-reader
invariant-loop-reader l = l.all ≡ l.fn.all ++ map (reader_table l.m l.n l.net.nets) (take l.reader-index l.readers)
