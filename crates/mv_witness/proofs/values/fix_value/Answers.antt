use Rattle.std.proofs.Common.{◌≡◌, ◌∙◌, ℕ, List, [], ◌∷◌, ap}
use Rattle.mv_diagram.specs.Cubes.{in_cube}
use Rattle.mv_diagram.specs.declared.cube.Literal.{Literal}
use Rattle.mv_witness.proofs.Fixing.{is_fixed}
use Rattle.mv_witness.proofs.values.fix_value.Goals as goal

pub returns-in-Ok-add_cube-clause-fixed : goal.returns-in-Ok-add_cube-clause-fixed
returns-in-Ok-add_cube-clause-fixed c =
    let cube : ℕ → List Literal = λ s. record { var = c.args.var; set = s } ∷ [] in
    is_fixed c.args.factors.now c.least_value.new.factors c.add_cube.new.self c.args.from c.args.var c.in-Ok.value c.requires.from
    c.in-Ok.ensures.keeps c.in-Ok.ensures.long c.in-Ok.ensures.value c.in-Ok-add_cube.ensures.keeps c.in-Ok-add_cube.ensures.long
    (λ p range. c.in-Ok-add_cube.ensures.set p range ∙ ap (λ s. in_cube (cube s) p) c.one-set.ensures)
