-- Each member that is taken out comes as what it is behind the merge.
use Rattle.std.proofs.Common.{◌∙◌, refl, sym, ap}
use Rattle.mv_base.specs.Set.{join, minus}
use Rattle.mv_base.proofs.Sets.{join_empty}
use Rattle.mv_cover.proofs.WideMarks.{one_fewer}
use Rattle.mv_merging.specs.Values.{merged_set}
use Rattle.mv_merging.proofs.Moving.{member_more, merged_none, join_none}
use Rattle.mv_merging.proofs.merging.Merging.merged.Goals as goal

pub loop-value-init : goal.loop-value-init
loop-value-init c = ap (λ s. join s (merged_set c.args.self c.args.old)) c.empty-all.ensures ∙ join_empty (merged_set c.args.self c.args.old)

pub loop-value-smaller : goal.loop-value-smaller
loop-value-smaller c =
    one_fewer c.loop-value.rest c.in-Some.value.0 c.minus-rest.result c.in-Some.ensures.some (c.minus-rest.ensures ∙ ap (minus c.loop-value.rest) c.one.ensures)

pub loop-value-preserved : goal.loop-value-preserved
loop-value-preserved c =
    member_more c.args.self c.args.old c.loop-value.all c.loop-value.rest c.in-Some.value.0 c.merged_value.result c.minus-rest.result c.join-all.result c.in-Some.ensures.some
    c.loop-value.invariant c.merged_value.ensures (c.minus-rest.ensures ∙ ap (minus c.loop-value.rest) c.one.ensures) c.join-all.ensures

pub returns : goal.returns
returns c =
    sym (ap (λ s. join c.loop-value.all (merged_set c.args.self s)) (c.in_default.ensures.none.0 refl)
    ∙ (ap (join c.loop-value.all) (merged_none c.args.self) ∙ join_none c.loop-value.all))
    ∙ c.loop-value.invariant
