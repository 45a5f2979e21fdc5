use Rattle.std.proofs.Common.{[], arith}
use Rattle.std.proofs.lemmas.List.Elements.{All-cons}
use Rattle.mv_diagram.specs.Diagrams.{IsHeld}
use Rattle.mv_diagram_examples.proofs.diagrams.what_is_let_go_makes_room.Goals as goal

pub release-requires-clause-within : goal.release-requires-clause-within
release-requires-clause-within g c = let more = c.literal-2.ensures.keeps.places in omega (arith, c.mark-mark.ensures.length)

pub reclaim-requires : goal.reclaim-requires
reclaim-requires g c =
    let first = c.in_ok-kept.ensures.held in
    let second = c.literal-2.ensures.keeps.held c.in_ok-kept.kept first in
    let third = c.release.ensures.kept c.in_ok-kept.kept second (c.mark-mark.ensures.earlier c.in_ok-kept.kept first) in
    All-cons (IsHeld c.literal-3.new.self) c.in_ok-kept.kept [] (c.literal-3.ensures.keeps.held c.in_ok-kept.kept third) (λ k d less. absurd (omega arith))
