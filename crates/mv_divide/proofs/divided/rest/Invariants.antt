use Rattle.std.proofs.Common.{◌≡◌, not, All, filter, take}
use Rattle.mv_cover.specs.Cubes.{IsCube}
use Rattle.mv_cover.specs.declared.line.Line.{Line}
use Rattle.mv_divide.specs.Grouped.{is_product}
use Rattle.mv_divide.proofs.divided.rest.Given as goal

abbrev pub invariant-loop-line : goal.invariant-loop-line
invariant-loop-line l = record {
  rest : l.rest.items ≡ filter (λ (x : Line). not (is_product l.left.keys l.divisor x)) (take l.line-index l.lines);
  formed : All (λ (x : Line). IsCube x.cube) (take l.line-index l.lines);
}
