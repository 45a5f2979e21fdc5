use Rattle.std.proofs.Common.{◌-◌, arith}
use Rattle.mv_graph.specs.Sorting.{net_at}
use Rattle.mv_solve.proofs.Orders.{has_at}
use Rattle.mv_solve.proofs.parts.link_parts.Goals as goal

pub part_of-part-requires : goal.part_of-part-requires
part_of-part-requires c =
    let p = c.loop-place.place - 1 in
    c.requires.room (net_at c.args.order.now p) (has_at c.args.order.now p (omega (arith, c.loop-place.invariant.low, c.loop-place-test.true)))

pub bounds-nexts-n : goal.bounds-nexts-n
bounds-nexts-n c =
    let p = c.loop-place.place - 1 in
    let low = c.requires.room (net_at c.args.order.now p) (has_at c.args.order.now p (omega (arith, c.loop-place.invariant.low, c.loop-place-test.true))) in
    omega (arith, low, c.requires.nexts, c.loop-place.invariant.nexts)
