-- What is left of a cube is a cube.
use Rattle.std.proofs.Common.{◌∙◌, ◌≡◌, List, ap, sym, subst}
use Rattle.mv_cover.specs.Literal.{Lit}
use Rattle.mv_cover.specs.Cubes.{IsCube}
use Rattle.mv_kernels.specs.Symbols as spec
use Rattle.mv_kernels.proofs.Quotients.{IsCube-cube_quotient}
use Rattle.mv_kernels.proofs.symbols.cube_quotient.Goals as goal

pub of-requires : goal.of-requires
of-requires c =
    let is : c.in_ok-others.field-0.items ≡ spec.cube_quotient c.args.symbols.now c.args.cube.now = c.in_ok-others.ensures ∙ ap (spec.cube_quotient c.args.symbols.now) c.lits.ensures.lits in
    subst (λ (q : List Lit). IsCube q) (sym is) (IsCube-cube_quotient c.args.symbols.now c.args.cube.now c.lits.ensures.formed)
