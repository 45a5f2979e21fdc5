use Rattle.std.proofs.Common.{arith}
use Rattle.mv_graph.specs.Sorting.{net_at}
use Rattle.mv_solve.proofs.Orders.{has_at}
use Rattle.mv_solve.proofs.parts.join_fanins.Goals as goal

pub join-requires-clause-other : goal.join-requires-clause-other
join-requires-clause-other c =
    let low = c.requires.fanins (net_at c.args.fanins.now c.loop-m.m-index) (has_at c.args.fanins.now c.loop-m.m-index c.loop-m-test.true) in
    omega (arith, low, c.loop-m.invariant)
