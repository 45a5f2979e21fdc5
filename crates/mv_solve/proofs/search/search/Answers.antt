use Rattle.std.proofs.Common.{◌∙◌, sym, arith}
use Rattle.std.specs.Prelude.{slice_index}
use Rattle.mv_graph.specs.Sorting.{net_at}
use Rattle.mv_solve.proofs.Orders.{has_at}
use Rattle.mv_solve.proofs.Settling.{all_settled}
use Rattle.mv_solve.proofs.Turning.{step_on, stuck, stuck_within, stuck_open}
use Rattle.mv_solve.proofs.Advancing.{falls_on, falls_back}
use Rattle.mv_solve.proofs.search.search.Goals as goal

pub bounds-asked-number : goal.bounds-asked-number
bounds-asked-number c = c.requires.room.each (net_at c.args.order.now c.loop-place.place) (has_at c.args.order.now c.loop-place.place c.loop-place-test.true)

pub loop-place-smaller-in-Some : goal.loop-place-smaller-in-Some
loop-place-smaller-in-Some c = falls_on c.args.net.now.nets c.args.order.now c.args.starts.now c.args.asked.now c.loop-place.bounds c.loop-place.values c.loop-place.place c.in-Some.value.0 c.requires.way c.loop-place-test.true c.loop-place.invariant

pub loop-place-preserved-in-Some : goal.loop-place-preserved-in-Some
loop-place-preserved-in-Some c =
    let order = c.args.order.now in
    let here = c.requires.room.each (net_at order c.loop-place.place) (has_at order c.loop-place.place c.loop-place-test.true) in
    step_on c.args.net.now.nets order c.args.starts.now c.args.asked.now c.loop-place.bounds c.loop-place.values c.loop-place.place c.in-Some.value.0 c.requires.way c.loop-place-test.true (omega (arith, here, c.requires.room.valued, c.loop-place.auto.values)) (omega (arith, c.loop-place-test.true, c.requires.room.placed, c.loop-place.auto.bounds)) c.loop-place.invariant c.in-Some.ensures

pub mark_alone-requires : goal.mark_alone-requires
mark_alone-requires c = λ m h.
    let order = c.args.order.now in
    let low = c.requires.room.each m (c.requires.way.members m ∙ c.requires.way.held (net_at order c.loop-place.place) m (sym (c.fanins.ensures.members m) ∙ h)) in
    omega (arith, low, c.requires.room.marked, c.loop-place.auto.marks)

pub go_back-requires-clause-marked : goal.go_back-requires-clause-marked
go_back-requires-clause-marked c = stuck_within c.args.net.now.nets c.args.order.now c.args.starts.now c.args.asked.now c.mark_alone.new.marks c.fanins.result.now c.loop-place.place c.requires.way c.loop-place-test.true c.fanins.ensures c.mark_alone.ensures

pub go_back-requires-clause-free : goal.go_back-requires-clause-free
go_back-requires-clause-free c = stuck_open c.args.asked.now c.mark_alone.new.marks c.fanins.result.now c.mark_alone.ensures

pub go_back-requires-clause-none : goal.go_back-requires-clause-none
go_back-requires-clause-none c = stuck c.args.net.now.nets c.args.order.now c.args.starts.now c.args.asked.now c.loop-place.bounds c.mark_alone.new.marks c.fanins.result.now (slice_index c.loop-place.values) c.loop-place.place c.requires.way c.loop-place-test.true c.loop-place.invariant c.fanins.ensures c.mark_alone.ensures c.in_default.ensures

pub loop-place-smaller : goal.loop-place-smaller
loop-place-smaller c = falls_back c.args.net.now.nets c.args.order.now c.args.starts.now c.args.asked.now c.loop-place.bounds c.loop-place.values c.go_back.new.values c.loop-place.place c.in-Some-go_back.next c.requires.way c.loop-place.invariant c.in-Some-go_back.ensures.goes

pub returns : goal.returns
returns c = all_settled c.args.net.now.nets c.args.order.now c.args.starts.now c.args.asked.now c.loop-place.bounds (slice_index c.loop-place.values) c.loop-place.place c.requires.way c.loop-place-test.false c.loop-place.invariant
