-- A value that isn't the last becomes one more.
use Rattle.std.proofs.Common.{◌∙◌, ◌+◌, ◌<◌, length, refl, arith}
use Rattle.mv_flex.proofs.Numbering.{next_here}
use Rattle.mv_flex.proofs.space.step.Goals as goal

pub returns-then-more-count : goal.returns-then-more-count
returns-then-more-count c =
    let here : c.args.from + c.loop-place.place < length c.loop-place.values.items = omega (arith, c.requires, c.loop-place.invariant.long, c.loop-place-test.true) in
    next_here c.args.counts.now c.loop-place.values.items _ c.args.from c.loop-place.place c.index.result.now c.loop-place-test.true here c.index.ensures c.if-more-count.true refl
    ∙ c.loop-place.invariant.rest
