use Rattle.std.proofs.Common.{◌∙◌, sym, arith}
use Rattle.mv_graph.specs.Sorting.{net_at}
use Rattle.mv_solve.proofs.Spreading.{member_held, reads_held}
use Rattle.mv_solve.proofs.parts.find_parts.Goals as goal

pub join_fanins-requires-clause-net : goal.join_fanins-requires-clause-net
join_fanins-requires-clause-net c =
    let low = c.requires.room.each (net_at c.args.order.now c.loop-n.n-index) (member_held c.args.net.now.nets c.args.order.now c.loop-n.n-index c.requires.order c.loop-n-test.true) in
    omega (arith, low, c.loop-n.invariant, c.part_all.ensures)

pub join_fanins-requires-clause-fanins : goal.join_fanins-requires-clause-fanins
join_fanins-requires-clause-fanins c = λ m h.
    let n = net_at c.args.order.now c.loop-n.n-index in
    let low = c.requires.room.each m ((reads_held c.args.net.now.nets c.args.order.now c.requires.order).each n m (sym (c.fanins.ensures.members m) ∙ h)) in
    omega (arith, low, c.loop-n.invariant, c.part_all.ensures)
