-- The nets ascend as their places do.
use Rattle.std.proofs.Common.{◌∙◌, List, map, sym, subst, ap}
use Rattle.mv_cover.specs.Cubes.{IsCube}
use Rattle.mv_cover.specs.Literal.{Lit}
use Rattle.mv_shapes.specs.Shape.{lit_over}
use Rattle.mv_shapes.proofs.Spread.{rises}
use Rattle.mv_shapes.proofs.Spreading.{cube_formed}
use Rattle.mv_shapes.proofs.over.cube_over.Goals as goal

pub of-requires : goal.of-requires
of-requires c =
    let nets = c.args.nets.now in
    let P : List Lit → Type 0 = λ ls. IsCube ls in
    subst P (sym (c.in_ok-made.ensures ∙ ap (map (lit_over nets)) c.lits.ensures.lits))
    (cube_formed nets (rises nets c.requires.ascend) c.args.cube.now c.lits.ensures.formed)
