-- Each column's net has a number, and the count that it has by this.
use Rattle.std.proofs.Common.{◌∙◌, ap}
use Rattle.mv_flat.specs.Placed.{are_known}
use Rattle.mv_flat.proofs.Counted.{column_more, has_count}
use Rattle.mv_flat.proofs.columns.columns.Goals as goal

pub bounds-counts-number : goal.bounds-counts-number
bounds-counts-number c =
    has_count c.args.names.now c.as_slice-net-items.result.now c.args.counts.now c.loop-net.net-index c.net-item.result c.of-number.result c.requires.counts
    (ap (are_known c.args.names.now) c.as_slice-net-items.ensures ∙ c.requires.known) c.loop-net-test.true c.net-item.is c.of-number.ensures

pub loop-net-preserved : goal.loop-net-preserved
loop-net-preserved c = λ ds e.
    column_more ds c.args.names.now c.as_slice-net-items.result.now c.args.counts.now c.loop-net.net-index c.net-item.result c.of-number.result _ c.loop-net.columns.items
    c.push.new.self.items e (ap (are_known c.args.names.now) c.as_slice-net-items.ensures ∙ c.requires.known) c.loop-net-test.true c.net-item.is c.of-number.ensures
    (c.loop-net.invariant ds e) c.in_ok-push.ensures.items
