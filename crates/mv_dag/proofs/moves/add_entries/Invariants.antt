use Rattle.std.proofs.Common.{◌≡◌, ◌++◌, map, take}
use Rattle.mv_dag.specs.Moves.{entry_of}
use Rattle.mv_dag.proofs.moves.add_entries.Given as goal

abbrev pub invariant-loop-net : goal.invariant-loop-net
invariant-loop-net l = l.entries.items ≡ l.initial.entries.items ++ map (entry_of l.labels) (take l.net-index l.nets)
