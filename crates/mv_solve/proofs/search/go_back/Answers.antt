use Rattle.std.proofs.Common.{◌≡◌, ◌∙◌, ℕ, ◌+◌, ◌-◌, ◌<◌, ◌≤◌, false, ◌&&◌, ◌||◌, not, length, set, refl, sym, ap, subst, arith}
use Rattle.std.specs.Prelude.{slice_index}
use Rattle.std.specs.List.{slice_range}
use Rattle.std.proofs.lemmas.List.{length-set}
use Rattle.mv_graph.specs.Nets.{has_id}
use Rattle.mv_graph.specs.Sorting.{net_at}
use Rattle.mv_solve.specs.Asked.{asked_of, may_have}
use Rattle.mv_solve.specs.First.{IsLeast, NoneFrom}
use Rattle.mv_solve.specs.Known.{is_only}
use Rattle.mv_solve.specs.Marks.{MarkedWithin}
use Rattle.mv_solve.specs.Way.{AreSettled}
use Rattle.mv_solve.proofs.Orders.{has_at, has_first, between_first, between_slice}
use Rattle.mv_solve.proofs.Turning.{turn, turn_within, turn_open, hand_on, hand_within, hand_open, nothing_marked, HandsOn}
use Rattle.mv_solve.proofs.Advancing.{goes_back}
use Rattle.mv_solve.proofs.search.go_back.Goals as goal

pub least_value-requires : goal.least_value-requires
least_value-requires c =
    let order = c.args.order.now in
    let p = c.loop-place.place - 1 in
    sym (c.requires.way.members (net_at order p)) ∙ has_at order p (omega (arith, c.requires.inside, c.loop-place.invariant.low, c.loop-place-test.true))

pub end_of_marked-end-requires-clause-within : goal.end_of_marked-end-requires-clause-within
end_of_marked-end-requires-clause-within c =
    let nets = c.args.net.now.nets in
    let order = c.args.order.now in
    let starts = c.args.starts.now in
    let p = c.loop-place.place - 1 in
    let n = net_at order p in
    let on : p < c.args.from = omega (arith, c.loop-place.invariant.low, c.loop-place-test.true) in
    let lt : p < length order = omega (arith, c.requires.inside) in
    let place = c.requires.room.each n (has_at order p lt) in
    let room : n < length c.loop-place.marks = omega (arith, place, c.requires.room.marked, c.loop-place.auto.marks) in
    let last : c.loop-place.place ≡ p + 1 = omega (arith, c.loop-place-test.true) in
    let P : ℕ → Type 0 = λ k. MarkedWithin c.loop-place.marks order (slice_index starts c.args.from) k in
    let within = subst P last c.loop-place.invariant.within in
    turn_within c.loop-place.marks order (slice_index starts c.args.from) p lt room within

pub returns-in-Some-clause-settled : goal.returns-in-Some-clause-settled
returns-in-Some-clause-settled c =
    let nets = c.args.net.now.nets in
    let order = c.args.order.now in
    let starts = c.args.starts.now in
    let p = c.loop-place.place - 1 in
    let n = net_at order p in
    let on : p < c.args.from = omega (arith, c.loop-place.invariant.low, c.loop-place-test.true) in
    let lt : p < length order = omega (arith, c.requires.inside) in
    let here : slice_index starts p ≡ slice_index starts c.args.from = c.requires.way.same p c.args.from (omega (arith, c.loop-place-test.true)) (omega arith) c.requires.inside in
    let place = c.requires.room.each n (has_at order p lt) in
    let room : n < length c.loop-place.marks = omega (arith, place, c.requires.room.marked, c.loop-place.auto.marks) in
    let Q : ℕ → Type 0 = λ s. MarkedWithin (set c.loop-place.marks n false) order s c.end_of_marked-end.result in
    let R : ℕ → Type 0 = λ b. AreSettled nets order starts c.args.asked.now (set c.loop-place.bounds p b) (slice_index (set c.loop-place.values n c.in-Some.value.0)) (p + 1) in
    let may = may_have nets (asked_of c.args.asked.now n) (slice_index c.loop-place.values) n in
    let S : ℕ → Type 0 = λ k. IsLeast may (k + 1) c.in-Some.value.0 in
    subst R (sym c.max.ensures) (turn nets order starts c.args.asked.now c.loop-place.marks c.loop-place.bounds c.loop-place.values c.args.from p c.end_of_marked-end.result c.in-Some.value.0 c.requires.way lt on (omega (arith, place, c.requires.room.valued, c.loop-place.auto.values)) room (omega (arith, lt, c.requires.room.placed, c.loop-place.auto.bounds)) c.loop-place.invariant.settled c.loop-place.invariant.clash (turn_open c.args.asked.now c.loop-place.marks n room c.loop-place.invariant.free) (subst Q (sym here) c.end_of_marked-end.ensures.within) c.end_of_marked-end.ensures.low (subst S c.from-next.ensures c.in-Some.ensures))

pub returns-in-Some-clause-goes : goal.returns-in-Some-clause-goes
returns-in-Some-clause-goes c =
    let nets = c.args.net.now.nets in
    let order = c.args.order.now in
    let starts = c.args.starts.now in
    let p = c.loop-place.place - 1 in
    let n = net_at order p in
    let on : p < c.args.from = omega (arith, c.loop-place.invariant.low, c.loop-place-test.true) in
    let lt : p < length order = omega (arith, c.requires.inside) in
    let place = c.requires.room.each n (has_at order p lt) in
    let Q : ℕ → Type 0 = λ k. k + 1 ≤ c.in-Some.value.0 in
    goes_back order c.loop-place.values c.args.values.now c.args.from p c.in-Some.value.0 c.requires.way.once lt on (omega (arith, place, c.requires.room.valued, c.loop-place.auto.values)) c.loop-place.invariant.same (subst Q c.from-next.ensures c.in-Some.ensures.from)

pub fanins-requires : goal.fanins-requires
fanins-requires c =
    let order = c.args.order.now in
    let p = c.loop-place.place - 1 in
    sym (c.requires.way.members (net_at order p)) ∙ has_at order p (omega (arith, c.requires.inside, c.loop-place.invariant.low, c.loop-place-test.true))

pub mark_open-requires : goal.mark_open-requires
mark_open-requires c = λ m h.
    let n = net_at c.args.order.now (c.loop-place.place - 1) in
    let low = c.requires.room.each m (c.requires.way.members m ∙ c.requires.way.held n m (sym (c.fanins.ensures.members m) ∙ h)) in
    omega (arith, low, c.requires.room.marked, c.loop-place.auto.marks, length-set c.loop-place.marks n false)

pub mark_open-requires-then-marks-number : goal.mark_open-requires-then-marks-number
mark_open-requires-then-marks-number c = λ m h.
    let nets = c.args.net.now.nets in
    let order = c.args.order.now in
    let starts = c.args.starts.now in
    let p = c.loop-place.place - 1 in
    let n = net_at order p in
    let on : p < c.args.from = omega (arith, c.loop-place.invariant.low, c.loop-place-test.true) in
    let lt : p < length order = omega (arith, c.requires.inside) in
    let here : slice_index starts p ≡ slice_index starts c.args.from = c.requires.way.same p c.args.from (omega (arith, c.loop-place-test.true)) (omega arith) c.requires.inside in
    let bound = slice_index c.loop-place.bounds p in
    let start = slice_index starts c.args.from in
    let above = (c.loop-place.invariant.settled.each p on).above in
    let inside = has_first order bound m (between_first order start bound m (between_slice order start bound m (omega (arith, above, here)) c.requires.way.once h)) in
    let low = c.requires.room.each m inside in
    omega (arith, low, c.requires.room.marked, c.loop-place.auto.marks, length-set c.loop-place.marks n false, c.mark_open.auto.marks)

pub loop-place-preserved-then-marks-number : goal.loop-place-preserved-then-marks-number
loop-place-preserved-then-marks-number c =
    let nets = c.args.net.now.nets in
    let order = c.args.order.now in
    let starts = c.args.starts.now in
    let p = c.loop-place.place - 1 in
    let n = net_at order p in
    let on : p < c.args.from = omega (arith, c.loop-place.invariant.low, c.loop-place-test.true) in
    let lt : p < length order = omega (arith, c.requires.inside) in
    let here : slice_index starts p ≡ slice_index starts c.args.from = c.requires.way.same p c.args.from (omega (arith, c.loop-place-test.true)) (omega arith) c.requires.inside in
    let place = c.requires.room.each n (has_at order p lt) in
    let room : n < length c.loop-place.marks = omega (arith, place, c.requires.room.marked, c.loop-place.auto.marks) in
    let last : c.loop-place.place ≡ p + 1 = omega (arith, c.loop-place-test.true) in
    let P : ℕ → Type 0 = λ k. MarkedWithin c.loop-place.marks order (slice_index starts c.args.from) k in
    let within = subst P last c.loop-place.invariant.within in
    let asked = c.args.asked.now in
    let at = slice_index c.loop-place.values in
    let bound = slice_index c.loop-place.bounds p in
    let start = slice_index starts c.args.from in
    let next = c.mark_open-then-marks-number.new.marks in
    let fanins = c.fanins.result.now in
    let hands_from : HandsOn order asked c.loop-place.marks next fanins n start bound = record { each = λ m. c.mark_open-then-marks-number.ensures m ∙ ap (λ b. b || (has_id (slice_range order start bound) m && not (is_only (asked_of asked m)))) (c.mark_open.ensures m) } in
    let Q : ℕ → Type 0 = λ s. HandsOn order asked c.loop-place.marks next fanins n s bound in
    let hands = subst Q (sym here) hands_from in
    let W : ℕ → Type 0 = λ s. MarkedWithin c.loop-place.marks order s (p + 1) in
    let V : ℕ → Type 0 = λ s. MarkedWithin next order s p in
    let may = may_have nets (asked_of asked n) at n in
    let S : ℕ → Type 0 = λ k. NoneFrom may (k + 1) in
    record {
      is = refl;
      above = omega (arith, c.loop-place-test.true);
      low = omega arith;
      same = c.loop-place.invariant.same;
      settled = c.loop-place.invariant.settled;
      within = subst V here (hand_within nets order starts asked c.loop-place.marks next fanins c.loop-place.bounds at c.args.from p c.requires.way lt on room c.loop-place.invariant.settled c.fanins.ensures hands (subst W (sym here) within));
      free = hand_open order asked c.loop-place.marks next fanins n (slice_index starts p) bound hands (turn_open asked c.loop-place.marks n room c.loop-place.invariant.free);
      clash = hand_on nets order starts asked c.loop-place.marks next fanins c.loop-place.bounds at c.args.from p c.requires.way lt on room c.loop-place.invariant.settled c.loop-place.invariant.clash c.fanins.ensures hands (subst S c.from-next.ensures c.in_default.ensures);
    }

pub returns-clause-settled : goal.returns-clause-settled
returns-clause-settled c =
    let start = slice_index c.args.starts.now c.args.from in
    let end : c.loop-place.place ≡ start = omega (arith, c.loop-place.invariant.above, c.loop-place-test.false) in
    let P : ℕ → Type 0 = λ k. MarkedWithin c.loop-place.marks c.args.order.now start k in
    nothing_marked c.args.net.now.nets c.args.order.now c.args.asked.now c.loop-place.marks start (slice_index c.loop-place.values) (subst P end c.loop-place.invariant.within) c.loop-place.invariant.clash
