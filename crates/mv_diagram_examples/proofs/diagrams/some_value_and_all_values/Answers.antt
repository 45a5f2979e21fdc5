use Rattle.std.proofs.Common.{[], ◌∷◌, ◌∙◌, ap, refl}
use Rattle.mv_diagram.specs.Diagrams.{Contents}
use Rattle.mv_diagram.proofs.Counting.{vars_tested}
use Rattle.mv_diagram_examples.proofs.diagrams.some_value_and_all_values.Goals as goal

pub exists-requires-clause-vars : goal.exists-requires-clause-vars
exists-requires-clause-vars g c =
    let counts = c.or.ensures.keeps.counts ∙ c.literal-2.ensures.keeps.counts ∙ c.literal.ensures.keeps.counts ∙ ap (λ (d : Contents). d.counts) c.in_ok-diagrams.ensures in
    rw counts (vars_tested (2 ∷ 3 ∷ []) (1 ∷ []) refl)

pub forall-requires-clause-vars : goal.forall-requires-clause-vars
forall-requires-clause-vars g c =
    let counts = c.exists.ensures.keeps.counts ∙ c.or.ensures.keeps.counts ∙ c.literal-2.ensures.keeps.counts ∙ c.literal.ensures.keeps.counts ∙ ap (λ (d : Contents). d.counts) c.in_ok-diagrams.ensures in
    rw counts (vars_tested (2 ∷ 3 ∷ []) (1 ∷ []) refl)

pub same-requires-2-clause-right : goal.same-requires-2-clause-right
same-requires-2-clause-right g c =
    let left = c.in_ok-left.left in
    c.forall.ensures.keeps.held left (c.exists.ensures.keeps.held left (c.or.ensures.keeps.held left (c.literal-2.ensures.keeps.held left c.in_ok-left.ensures.held)))
