use Rattle.std.proofs.Common.{◌≡◌, ◌++◌, map, take}
use Rattle.mv_cover.specs.declared.line.Line.{Line}
use Rattle.mv_gains.proofs.cubes.add_lines.Given as goal

abbrev pub invariant-loop-line : goal.invariant-loop-line
invariant-loop-line l = l.cubes.items ≡ l.fn.cubes.items ++ map (λ (x : Line). x.cube) (take l.line-index l.lines)
