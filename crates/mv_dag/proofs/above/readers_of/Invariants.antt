use Rattle.std.proofs.Common.{◌≡◌, ℕ, ◌&&◌, take}
use Rattle.mv_graph.specs.Nets.{has_id, row}
use Rattle.mv_dag.proofs.above.readers_of.Given as goal

abbrev pub invariant-loop-reader : goal.invariant-loop-reader
invariant-loop-reader l =
    (n : ℕ) → has_id l.nets.items n ≡ (has_id (take l.reader-index l.reader-items) n && has_id (row l.fanins n) l.net.0)
