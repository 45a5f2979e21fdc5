use Rattle.std.proofs.Common.{◌≡◌, map, take}
use Rattle.mv_shapes.specs.Shape.{line_over}
use Rattle.mv_shapes.proofs.over.lines_over.Given as goal

abbrev pub invariant-loop-line : goal.invariant-loop-line
invariant-loop-line l = l.made ≡ map (line_over l.nets) (take l.line-index l.lines)
