use Rattle.std.proofs.Common.{◌&&◌, not, take}
use Rattle.mv_graph.specs.Nets.{has_id}
use Rattle.mv_dag.specs.Readers.{IsShrunk, is_given_by}
use Rattle.mv_dag.proofs.readers.prune_row.Given as goal

abbrev pub invariant-loop-fanin : goal.invariant-loop-fanin
invariant-loop-fanin l = IsShrunk l.initial.readers l.readers (λ n m. is_given_by l.net.0 (take l.fanin-index l.nets) n m && not (has_id l.kept m))
