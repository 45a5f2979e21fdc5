use Rattle.mv_dag.specs.Growing.{AreAdded}
use Rattle.mv_dag.proofs.growing.add_nets.Given as goal

abbrev pub invariant-loop-index : goal.invariant-loop-index
invariant-loop-index l = AreAdded l.index l.initial.fanins l.fanins l.initial.readers l.readers l.initial.labels.items l.labels.items
