-- Stop by stop.
use Rattle.std.proofs.Common.{◌+◌, sym, subst, refl, get_or}
use Rattle.mv_unfold.specs.Locals.{AreBetween}
use Rattle.mv_unfold.proofs.Between.{IsCutTo, cut_more, cut_all}
use Rattle.mv_unfold.proofs.spans.spans_between.Goals as goal

pub loop-stop-preserved : goal.loop-stop-preserved
loop-stop-preserved c =
    let i = c.loop-stop.stop-index in
    let stops = c.args.stops.now in
    subst (λ spans. IsCutTo stops c.args.count spans (i + 1) (get_or stops i 0 + 1)) (sym c.in_ok-add_span.ensures)
    (cut_more stops c.args.count c.loop-stop.spans i c.loop-stop.start (get_or stops i 0) c.requires.ascending c.requires.below c.loop-stop.invariant
    c.loop-stop-test.true refl)

pub returns : goal.returns
returns c =
    subst (AreBetween c.args.stops.now c.args.count) (sym c.in_ok-add_span-2.ensures)
    (cut_all c.args.stops.now c.args.count c.loop-stop.spans c.loop-stop.stop-index c.loop-stop.start c.loop-stop.invariant c.loop-stop-test.false)
