-- The fanins of the next net are marked, and so is it then.
use Rattle.std.proofs.Common.{arith}
use Rattle.mv_net.proofs.Known.{is_held_below}
use Rattle.mv_fill.proofs.Marking.{none_marked, next_held, fanins_marked, marked_more, has_marks}
use Rattle.mv_fill.proofs.varied.mark_each.Goals as goal

pub loop-n-init : goal.loop-n-init
loop-n-init c = none_marked c.args.net.now.nets c.args.marks.now c.requires.long

pub is_varied-varied-requires : goal.is_varied-varied-requires
is_varied-varied-requires c = record {
  held = next_held c.args.net.now.nets c.args.order.now c.requires.order c.loop-n.n-index _ c.loop-n-test.true;
  marked = rw c.as_slice.ensures (fanins_marked c.args.net.now.nets c.args.order.now c.requires.order c.loop-n.n-index _ c.loop-n-test.true c.loop-n.marks c.loop-n.invariant);
}

pub replace-requires : goal.replace-requires
replace-requires c =
    omega (arith, c.loop-n.invariant.long, is_held_below c.args.net.now.nets _ (next_held c.args.net.now.nets c.args.order.now c.requires.order c.loop-n.n-index (record { 0 = 0 }) c.loop-n-test.true))

pub loop-n-preserved : goal.loop-n-preserved
loop-n-preserved c =
    marked_more c.args.net.now.nets c.args.order.now c.requires.order c.loop-n.n-index _ c.loop-n-test.true c.loop-n.marks c.replace.new.self c.is_varied-varied.result c.loop-n.invariant c.replace.ensures.items c.is_varied-varied.ensures

pub returns : goal.returns
returns c = has_marks c.args.net.now.nets c.args.order.now c.loop-n.n-index c.loop-n.marks c.requires.order (omega (arith, c.loop-n-test.false)) c.loop-n.invariant
