use Rattle.std.proofs.Common.{◌&&◌, not, take}
use Rattle.mv_graph.specs.Nets.{has_id, row}
use Rattle.mv_dag.specs.Readers.{IsShrunk, is_given}
use Rattle.mv_dag.proofs.readers.prune.Given as goal

abbrev pub invariant-loop-row : goal.invariant-loop-row
invariant-loop-row l = IsShrunk l.initial.readers l.readers (λ n m. is_given (take l.row-index l.rows) n m && not (has_id (row l.fanins n) m))
