use Rattle.std.proofs.Common.{◌≡◌, length}
use Rattle.mv_diagram.specs.declared.node.Dd.{Dd}
use Rattle.mv_diagram.specs.Diagrams.{IsHeld}
use Rattle.mv_bench.proofs.meets.drawn_set.Given as goal

abbrev pub invariant-cubes : goal.invariant-cubes
invariant-cubes l = record {
  set : IsHeld l.diagrams l.set;
  counts : length l.diagrams.counts ≡ 30;
  kept : (d : Dd) → IsHeld l.fn.diagrams d → IsHeld l.diagrams d;
}
