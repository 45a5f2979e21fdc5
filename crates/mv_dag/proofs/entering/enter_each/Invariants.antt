use Rattle.mv_dag.specs.Ordered.{IsOrdered}
use Rattle.mv_dag.specs.Changing.{IsStage}
use Rattle.mv_dag.proofs.entering.enter_each.Given as goal

abbrev pub invariant-loop-place : goal.invariant-loop-place
invariant-loop-place l =
    IsStage l.place l.initial.fanins l.fanins l.initial.rows l.rows l.initial.labels l.labels l.moves × IsOrdered l.fanins l.labels
