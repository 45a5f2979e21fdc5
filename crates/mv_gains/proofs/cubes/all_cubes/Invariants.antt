use Rattle.std.proofs.Common.{◌≡◌, map, take}
use Rattle.mv_cover.specs.declared.line.Line.{Line}
use Rattle.mv_gains.specs.Candidates.{all_lines}
use Rattle.mv_gains.proofs.cubes.all_cubes.Given as goal

abbrev pub invariant-loop-net : goal.invariant-loop-net
invariant-loop-net l = l.cubes.items ≡ map (λ (x : Line). x.cube) (all_lines (take l.net-index l.nets))
