use Rattle.std.proofs.Common.{◌≡◌}
use Rattle.mv_diagram.specs.Diagrams.{IsHeld}
use Rattle.mv_diagram_examples.proofs.diagrams.a_parity_of_forty_variables_takes_little_room.Given as goal

abbrev pub invariant-loop-var : goal.invariant-loop-var
invariant-loop-var g l = record {
  counts : l.diagrams.counts ≡ l.initial.diagrams.counts;
  held : IsHeld l.diagrams l.parity;
}
