use Rattle.mv_diagram.specs.Cubes.{AreSome}
use Rattle.mv_diagram.proofs.cube.all_some.Given as goal

abbrev pub invariant-loop-literal : goal.invariant-loop-literal
invariant-loop-literal l = AreSome l.table.counts.items l.literals l.literal-index
