use Rattle.std.proofs.Common.{◌≡◌, length}
use Rattle.mv_diagram.specs.declared.node.Dd.{Dd}
use Rattle.mv_diagram.specs.Diagrams.{IsHeld}
use Rattle.mv_bench.proofs.meets.with_cube.Given as goal

abbrev pub invariant-literals : goal.invariant-literals
invariant-literals l = record {
  set : IsHeld l.diagrams l.set;
  cube : IsHeld l.diagrams l.cube;
  counts : length l.diagrams.counts ≡ 30;
  kept : (d : Dd) → IsHeld l.fn.diagrams d → IsHeld l.diagrams d;
}
