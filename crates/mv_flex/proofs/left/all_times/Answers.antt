-- The count of one place more.
use Rattle.std.proofs.Common.{◌∙◌, ap}
use Rattle.mv_flex.specs.Places.{times_matched}
use Rattle.mv_flex.proofs.Leaving.{times_more}
use Rattle.mv_flex.proofs.left.all_times.Goals as goal

pub loop-values-preserved : goal.loop-values-preserved
loop-values-preserved c =
    times_more c.args.nets.now c.args.lines.now c.args.places.now c.loop-values.counts.items c.push.new.self.items c.loop-values.values-index
    c.values-item.result _ c.loop-values-test.true c.values-item.is c.loop-values.invariant
    (c.times_matched.ensures ∙ ap (times_matched c.args.nets.now c.args.lines.now) c.as_slice.ensures) c.in_ok-push.ensures.items
