use Rattle.std.proofs.Common.{◌∙◌, ◌&&◌, nat_eq, ap, arith}
use Rattle.mv_graph.specs.Sorting.{net_at}
use Rattle.mv_solve.specs.Asked.{takes}
use Rattle.mv_solve.proofs.Spreading.{only_noted, member_held}
use Rattle.mv_solve.proofs.forward.spread_forward.Goals.{then-eq+in-Some, then-eq+in_default, else-eq}
use Rattle.mv_solve.proofs.forward.spread_forward.Goals as goal

pub bounds-known-n : goal.bounds-known-n
bounds-known-n c =
    let low = c.requires.room.each (net_at c.args.order.now c.loop-n.n-index) (member_held c.args.net.now.nets c.args.order.now c.loop-n.n-index c.requires.order c.loop-n-test.true) in
    omega (arith, low, c.loop-n.invariant.long)

pub loop-n-preserved : goal.loop-n-preserved
loop-n-preserved c =
    let nets = c.args.net.now.nets in
    let order = c.args.order.now in
    let i = c.loop-n.n-index in
    let low = c.requires.room.each (net_at order i) (member_held nets order i c.requires.order c.loop-n-test.true) in
    elim c.if-eq.branch [
      | then-eq+in-Some w ↦ rw (w.known-is) (only_noted nets order c.args.known.now c.loop-n.known i w.in-Some.value.0 w.and.result c.requires.order c.loop-n-test.true (omega (arith, low, c.loop-n.invariant.long)) c.loop-n.invariant w.in-Some.ensures (λ u. w.and.ensures u ∙ ap (λ a. takes a u && nat_eq u w.in-Some.value.0) c.known_of-before.ensures))
      | then-eq+in_default w ↦ rw (w.known-is) c.loop-n.invariant
      | else-eq w ↦ rw (w.known-is) c.loop-n.invariant
    ]
