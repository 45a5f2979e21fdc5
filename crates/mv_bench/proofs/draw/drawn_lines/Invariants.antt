use Rattle.std.proofs.Common.{◌≡◌, true}
use Rattle.mv_bench.specs.Drawn.{lines_below}
use Rattle.mv_bench.proofs.draw.drawn_lines.Given as goal

abbrev pub invariant-drawing : goal.invariant-drawing
invariant-drawing l = lines_below l.shape.nets l.lines ≡ true
