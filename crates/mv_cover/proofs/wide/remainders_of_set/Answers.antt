-- Each value that is taken is a remainder more.
use Rattle.std.proofs.Common.{◌∙◌, ap, refl}
use Rattle.mv_base.specs.Set.{minus}
use Rattle.mv_cover.proofs.WideMarks.{finds_none, finds_more, finds_all, finds_each, one_fewer}
use Rattle.mv_cover.proofs.wide.remainders_of_set.Goals as goal

pub loop-value-init : goal.loop-value-init
loop-value-init c = finds_none c.args.set

pub returns-then-found-eq255 : goal.returns-then-found-eq255
returns-then-found-eq255 c =
    finds_each c.args.set _ _ c.members_are_small.ensures c.if-found-eq255.true
    (finds_more c.args.set c.loop-value.found c.loop-value.rest c.in-Some.value.0 c.bit-found.result _ c.members_are_small-in-Some.ensures c.in-Some.ensures.some c.bit-found.ensures refl
    c.loop-value.invariant)

pub loop-value-smaller : goal.loop-value-smaller
loop-value-smaller c =
    one_fewer c.loop-value.rest c.in-Some.value.0 c.minus-rest.result c.in-Some.ensures.some (c.minus-rest.ensures ∙ ap (minus c.loop-value.rest) c.one.ensures)

pub loop-value-preserved : goal.loop-value-preserved
loop-value-preserved c =
    finds_more c.args.set c.loop-value.found c.loop-value.rest c.in-Some.value.0 c.bit-found.result c.minus-rest.result c.members_are_small-in-Some.ensures c.in-Some.ensures.some
    c.bit-found.ensures (c.minus-rest.ensures ∙ ap (minus c.loop-value.rest) c.one.ensures) c.loop-value.invariant

pub returns : goal.returns
returns c = finds_all c.args.set c.loop-value.found c.loop-value.rest (c.in_default.ensures.none.0 refl) c.loop-value.invariant
