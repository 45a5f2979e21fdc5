use Rattle.std.proofs.Common.{◌≡◌, ◌++◌, take}
use Rattle.std.specs.Prelude.{filter}
use Rattle.mv_dag.specs.Moves.{is_other}
use Rattle.mv_dag.proofs.moves.add_others.Given as goal

abbrev pub invariant-loop-entry : goal.invariant-loop-entry
invariant-loop-entry l = l.turned.items ≡ l.initial.turned.items ++ filter (is_other l.above.keys) (take l.entry-index l.entries)
