use Rattle.std.proofs.Common.{◌≡◌, drop}
use Rattle.mv_dag.specs.Moves.{written}
use Rattle.mv_dag.proofs.moves.write.Given as goal

abbrev pub invariant-loop-index : goal.invariant-loop-index
invariant-loop-index l = written l.labels (drop l.index l.entries) (drop l.index l.places) ≡ written l.initial.labels l.entries l.places
