use Rattle.std.proofs.Common.{◌∙◌, ap, refl}
use Rattle.mv_diagram.specs.Diagrams.{Contents}
use Rattle.mv_diagram.proofs.Counting.{counts_tested, point_tested}
use Rattle.mv_diagram_examples.proofs.diagrams.a_parity_of_forty_variables_takes_little_room.Goals as goal

pub with_room-requires : goal.with_room-requires
with_room-requires g c = counts_tested _ refl

pub test-requires-clause-point : goal.test-requires-clause-point
test-requires-clause-point g c =
    let counts = c.loop-var.invariant.counts ∙ c.literal.ensures.keeps.counts ∙ ap (λ (d : Contents). d.counts) c.in_ok-diagrams.ensures in
    rw counts (point_tested _ _ refl)

pub test-requires-2-clause-point : goal.test-requires-2-clause-point
test-requires-2-clause-point g c =
    let counts = c.loop-var.invariant.counts ∙ c.literal.ensures.keeps.counts ∙ ap (λ (d : Contents). d.counts) c.in_ok-diagrams.ensures in
    rw counts (point_tested _ _ refl)
