use Rattle.std.proofs.Common.{◌∙◌, ap, refl}
use Rattle.mv_diagram.specs.Diagrams.{Contents}
use Rattle.mv_diagram.proofs.Counting.{point_tested}
use Rattle.mv_diagram_examples.proofs.diagrams.the_only_point_is_picked.Goals as goal

pub pick-requires-clause-point : goal.pick-requires-clause-point
pick-requires-clause-point g c =
    let counts = c.and.ensures.keeps.counts ∙ c.literal-2.ensures.keeps.counts ∙ c.literal.ensures.keeps.counts ∙ ap (λ (d : Contents). d.counts) c.in_ok-diagrams.ensures in
    rw counts (point_tested _ _ refl)
