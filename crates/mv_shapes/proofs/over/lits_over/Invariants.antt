use Rattle.std.proofs.Common.{◌≡◌, map, take}
use Rattle.mv_shapes.specs.Shape.{lit_over}
use Rattle.mv_shapes.proofs.over.lits_over.Given as goal

abbrev pub invariant-loop-lit : goal.invariant-loop-lit
invariant-loop-lit l = l.made.items ≡ map (lit_over l.nets) (take l.lit-index l.lits)
