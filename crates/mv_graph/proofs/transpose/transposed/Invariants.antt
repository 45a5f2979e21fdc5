use Rattle.mv_graph.proofs.Transposes.{IsTransposeBelow}
use Rattle.mv_graph.proofs.transpose.transposed.Given as goal

abbrev pub invariant-loop-number : goal.invariant-loop-number
invariant-loop-number l = IsTransposeBelow l.number l.rows l.turned
