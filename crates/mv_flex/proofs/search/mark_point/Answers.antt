-- Where the other tables agree the pair gets a mark.
use Rattle.std.proofs.Common.{◌∙◌, ◌<◌, ℕ, List, refl, sym, ap, subst}
use Rattle.mv_flex.specs.Spaces.{AreBelow, placed, code}
use Rattle.mv_flex.proofs.Looking.{part_below, part_code}
use Rattle.mv_flex.proofs.Marking.{adds_nothing, adds_pair}
use Rattle.mv_flex.proofs.search.mark_point.Goals as goal

pub number-pair-requires : goal.number-pair-requires
number-pair-requires c =
    subst (λ (l : List ℕ). AreBelow c.args.plan.now.pairs.counts (placed l c.args.point.now)) (sym c.as_slice-places.ensures)
    (part_below c.args.net.now.nets c.args.plan.now.nets c.args.plan.now.pairs c.args.asked.now.places c.args.point.now c.requires.asked.pair c.requires.point)

pub returns-then-not-others_agree : goal.returns-then-not-others_agree
returns-then-not-others_agree c = adds_nothing c.args.net.now.nets c.args.plan.now c.args.point.now c.args.marks.now.items (sym c.others_agree.ensures ∙ c.if-not-others_agree.true)

pub returns : goal.returns
returns c =
    adds_pair c.args.net.now.nets c.args.plan.now c.args.point.now c.args.marks.now.items _ c.number-pair.result (sym c.others_agree.ensures ∙ c.if-not-others_agree.false)
    (c.number-pair.ensures.value ∙ ap (λ (l : List ℕ). code c.args.plan.now.pairs.counts (placed l c.args.point.now)) c.as_slice-places.ensures ∙ part_code c.args.net.now.nets c.args.plan.now.nets c.args.plan.now.pairs c.args.asked.now.places c.args.point.now c.requires.asked.pair c.requires.point)
    (subst (λ (k : ℕ). c.number-pair.result < k) (sym c.requires.long) c.number-pair.ensures.low)
    refl
