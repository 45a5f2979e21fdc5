-- What is left of a cube is a cube.
use Rattle.std.proofs.Common.{List, sym, subst}
use Rattle.mv_cover.specs.Literal.{Lit}
use Rattle.mv_cover.specs.Cubes.{IsCube}
use Rattle.mv_composite.proofs.Cubes.{IsCube-without}
use Rattle.mv_composite.proofs.literal.without.Goals as goal

pub of-requires : goal.of-requires
of-requires c =
    subst (λ (q : List Lit). IsCube q) (sym c.in_ok-others.ensures.rest) (IsCube-without c.args.net.0 c.args.cube.now c.in_ok-others.ensures.formed)
