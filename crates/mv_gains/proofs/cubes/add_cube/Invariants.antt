use Rattle.std.proofs.Common.{take}
use Rattle.mv_cover.specs.Literal.{Lit}
use Rattle.mv_gains.specs.Cubes.{IsSharedAt}
use Rattle.mv_gains.specs.Grown.{Grew, IsOneOf}
use Rattle.mv_gains.specs.Holders.{places_in}
use Rattle.mv_gains.proofs.cubes.add_cube.Given as goal

abbrev pub invariant-loop-literal : goal.invariant-loop-literal
invariant-loop-literal l = Grew (IsOneOf (λ (m : Lit). IsOneOf (IsSharedAt l.cubes l.cube) (places_in l.holders m)) (take l.literal-index l.literal-items)) l.fn.found.keys l.found.keys
