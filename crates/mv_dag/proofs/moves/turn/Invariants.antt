use Rattle.std.proofs.Common.{◌≡◌, take}
use Rattle.std.specs.Prelude.{filter}
use Rattle.mv_dag.specs.Moves.{is_among}
use Rattle.mv_dag.proofs.moves.turn.Given as goal

abbrev pub invariant-loop-entry : goal.invariant-loop-entry
invariant-loop-entry l = l.turned.items ≡ filter (is_among l.above.keys) (take l.entry-index l.entries)
