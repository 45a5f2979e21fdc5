-- How a search goes on: a net gets its first value, a place where none is left turns back, and a net on the way back gets another or
-- hands on what it rests on.
use Rattle.std.proofs.Common.{◌≡◌, ◌∙◌, ℕ, ◌+◌, ◌<◌, ◌≤◌, Bool, true, false, ◌&&◌, ◌||◌, not, List, length, set, take, max, Option, refl, sym, ap, subst, ⊎_elim, arith, get_or-set_same, get_or-set_other}
use Rattle.std.specs.Prelude.{slice_index}
use Rattle.std.specs.List.{slice_range}
use Rattle.std.proofs.lemmas.Bool.{cases_eq, cases_order, and_from, and_parts, or_cases, or_left, or_right, not-true, false≢true}
use Rattle.mv_base.specs.declared.number.NetId.{NetId}
use Rattle.mv_graph.specs.Nets.{has_id, IsAscending}
use Rattle.mv_graph.specs.Sorting.{net_at}
use Rattle.mv_net.specs.declared.parts.FlatNet.{FlatNet}
use Rattle.mv_net.specs.Nets.{slot, net_reads, reads_in}
use Rattle.mv_solve.specs.declared.asked.Asked.{Asked}
use Rattle.mv_solve.specs.Asked.{takes, asked_of, may_have, NoSolution}
use Rattle.mv_net.specs.Allowed.{net_allows}
use Rattle.mv_solve.specs.Known.{is_only}
use Rattle.mv_solve.specs.First.{IsLeast, NoneFrom}
use Rattle.mv_solve.specs.Marks.{is_marked, between, MarkedWithin}
use Rattle.mv_solve.specs.Way.{AreAlike, AreOpen, IsWay, NoneAlike, IsRefuted, rests_on, IsSettled, AreSettled}
use Rattle.mv_solve.proofs.Orders.{has_at, between_none, between_further, between_less, between_slice, slice_between}
use Rattle.mv_solve.proofs.Marking.{unmarked}
use Rattle.mv_solve.proofs.Settling.{alike_less, may_kept, refuted_now, refuted_more, rests_before, all_kept, settled_more, put_alike, put_given}

-- a net gets a value below which each is refuted
pub settle : (nets : List (Option FlatNet)) (order : List NetId) (starts : List ℕ) (asked : List Asked) (bounds values : List ℕ) (end place bound v : ℕ) → IsWay nets order starts asked → place < length order → place ≤ end → net_at order place < length values → place < length bounds → AreSettled nets order starts asked bounds (slice_index values) end → slice_index starts place ≤ bound → bound ≤ place → may_have nets (asked_of asked (net_at order place)) (slice_index values) (net_at order place) v ≡ true → ((u : ℕ) → u < v → IsRefuted nets order asked (rests_on nets order asked (slice_index starts place) bound (net_at order place)) (slice_index values) (net_at order place) u) → AreSettled nets order starts asked (set bounds place bound) (slice_index (set values (net_at order place) v)) (place + 1)
settle nets order starts asked bounds values end place bound v o lt le room room_bound s above low may refuted =
    let n = net_at order place in
    let at = slice_index values in
    let now = slice_index (set values n v) in
    let limits = set bounds place bound in
    let same : AreAlike (has_id (take place order)) now at = put_alike order values place v o.once lt in
    let still = put_given asked values n v room (and_parts (net_allows (slot nets n) at v) (takes (asked_of asked n) v) may).1 s.given in
    let here : now n ≡ v = get_or-set_same values n v 0 room in
    let bounded : slice_index limits place ≡ bound = get_or-set_same bounds place bound 0 room_bound in
    let test = rests_on nets order asked (slice_index starts place) bound n in
    let kept : AreSettled nets order starts asked limits now place = all_kept nets order starts asked bounds limits at now end place o le still same (λ q less. get_or-set_other bounds place q bound 0 (λ e. absurd (omega arith))) s in
    let new : IsSettled nets order asked place (slice_index starts place) bound now n = record {
      above = above;
      low = low;
      may = may_kept nets order starts asked place (now n) at now o lt s.given still same ∙ (ap (may_have nets (asked_of asked n) at n) here ∙ may);
      less = λ u below.
          let less : u < v = omega (arith, here) in
          refuted_more nets order asked test test at now n u (λ m h. h) (alike_less test (has_id (take place order)) now at (λ m h. rests_before nets order starts asked place bound m o lt low h) same) (refuted u less);
    } in
    let P : ℕ → Type 0 = λ b. IsSettled nets order asked place (slice_index starts place) b now n in
    settled_more nets order starts asked limits now place lt kept (subst P (sym bounded) new)

-- what a net reads it rests on
rests_reads : (nets : List (Option FlatNet)) (order : List NetId) (asked : List Asked) (start end n m : ℕ) → reads_in nets n m ≡ true → is_only (asked_of asked m) ≡ false → rests_on nets order asked start end n m ≡ true
rests_reads nets order asked start end n m r e = and_from (reads_in nets n m || between order start end m) (not (is_only (asked_of asked m))) (or_left (reads_in nets n m) (between order start end m) r) (ap not e)

-- a net gets the first value that it may have
pub step_on : (nets : List (Option FlatNet)) (order : List NetId) (starts : List ℕ) (asked : List Asked) (bounds values : List ℕ) (place v : ℕ) → IsWay nets order starts asked → place < length order → net_at order place < length values → place < length bounds → AreSettled nets order starts asked bounds (slice_index values) place → IsLeast (may_have nets (asked_of asked (net_at order place)) (slice_index values) (net_at order place)) 0 v → AreSettled nets order starts asked (set bounds place (slice_index starts place)) (slice_index (set values (net_at order place) v)) (place + 1)
step_on nets order starts asked bounds values place v o lt room room_bound s least =
    let n = net_at order place in
    let start = slice_index starts place in
    settle nets order starts asked bounds values place place start v o lt (omega arith) room room_bound s (omega arith) (o.low place lt) least.passes (λ u less. refuted_now nets order starts asked (rests_on nets order asked start start n) (slice_index values) n u o s.given (has_at order place lt) (λ m r e. rests_reads nets order asked start start n m r e) (least.none u (omega arith) less))

-- where a net may have no value, those that it reads clash
pub stuck : (nets : List (Option FlatNet)) (order : List NetId) (starts : List ℕ) (asked : List Asked) (bounds : List ℕ) (marks : List Bool) (fanins : List NetId) (at : ℕ → ℕ) (place : ℕ) → IsWay nets order starts asked → place < length order → AreSettled nets order starts asked bounds at place → IsAscending (λ m. net_reads (slot nets (net_at order place)) m) fanins → ((m : ℕ) → is_marked marks m ≡ (has_id fanins m && not (is_only (asked_of asked m)))) → NoneFrom (may_have nets (asked_of asked (net_at order place)) at (net_at order place)) 0 → NoneAlike nets order asked (is_marked marks) at
stuck nets order starts asked bounds marks fanins at place o lt s f e least =
    let n = net_at order place in
    record {
      none = λ to sol a. (refuted_now nets order starts asked (is_marked marks) at n (to n) o s.given (has_at order place lt) (λ m r only. e m ∙ and_from (has_id fanins m) (not (is_only (asked_of asked m))) (f.members m ∙ r) (ap not only)) (least.none (to n) (omega arith))).none to sol a refl;
    }

pub stuck_within : (nets : List (Option FlatNet)) (order : List NetId) (starts : List ℕ) (asked : List Asked) (marks : List Bool) (fanins : List NetId) (place : ℕ) → IsWay nets order starts asked → place < length order → IsAscending (λ m. net_reads (slot nets (net_at order place)) m) fanins → ((m : ℕ) → is_marked marks m ≡ (has_id fanins m && not (is_only (asked_of asked m)))) → MarkedWithin marks order (slice_index starts place) place
stuck_within nets order starts asked marks fanins place o lt f e = record {
  each = λ m h.
      let p = and_parts (has_id fanins m) (not (is_only (asked_of asked m))) (sym (e m) ∙ h) in
      o.behind place m lt (sym (f.members m) ∙ p.0) (not-true (is_only (asked_of asked m)) p.1);
}

-- ---- the way back, at a marked net

-- an assignment that is like this one on the marks but one, and has that one's value, is so on all
all_alike : (marks : List Bool) (n : ℕ) (test : ℕ → Bool) (to at : ℕ → ℕ) → n < length marks → ((m : ℕ) → is_marked (set marks n false) m ≡ true → test m ≡ true) → AreAlike test to at → to n ≡ at n → AreAlike (is_marked marks) to at
all_alike marks n test to at room h a here = record {
  same = λ m marked.
      ⊎_elim
      (λ (e : m ≡ n). let P : ℕ → Type 0 = λ k. to k ≡ at k in subst P (sym e) here)
      (λ (ne : m ≡ n → ⊥). a.same m (h m (get_or-set_other marks n m false false ne ∙ marked)))
      (cases_eq m n);
}

-- what a net rests on up to a bound it does up to a greater one
rests_further : (nets : List (Option FlatNet)) (order : List NetId) (asked : List Asked) (start old bound n m : ℕ) → old ≤ bound → rests_on nets order asked start old n m ≡ true → rests_on nets order asked start bound n m ≡ true
rests_further nets order asked start old bound n m le h =
    let p = and_parts (reads_in nets n m || between order start old m) (not (is_only (asked_of asked m))) h in
    and_from (reads_in nets n m || between order start bound m) (not (is_only (asked_of asked m)))
    (⊎_elim
    (λ (r : reads_in nets n m ≡ true). or_left (reads_in nets n m) (between order start bound m) r)
    (λ (b : between order start old m ≡ true). or_right (reads_in nets n m) (between order start bound m) (between_further order start old bound m le b))
    (or_cases (reads_in nets n m) (between order start old m) p.0)) p.1

-- the net gets its next value: what it had is refuted by the other marks
pub turn : (nets : List (Option FlatNet)) (order : List NetId) (starts : List ℕ) (asked : List Asked) (marks : List Bool) (bounds values : List ℕ) (end place until v : ℕ) → IsWay nets order starts asked → place < length order → place < end → net_at order place < length values → net_at order place < length marks → place < length bounds → AreSettled nets order starts asked bounds (slice_index values) end → NoneAlike nets order asked (is_marked marks) (slice_index values) → AreOpen asked (set marks (net_at order place) false) → MarkedWithin (set marks (net_at order place) false) order (slice_index starts place) until → until ≤ place → IsLeast (may_have nets (asked_of asked (net_at order place)) (slice_index values) (net_at order place)) (slice_index values (net_at order place) + 1) v → AreSettled nets order starts asked (set bounds place (max (slice_index bounds place) until)) (slice_index (set values (net_at order place) v)) (place + 1)
turn nets order starts asked marks bounds values end place until v o lt le room room_marks room_bound s clash free w few least =
    let n = net_at order place in
    let at = slice_index values in
    let start = slice_index starts place in
    let old = slice_index bounds place in
    let bound = max old until in
    let was = s.each place le in
    let test = rests_on nets order asked start bound n in
    let further : (m : ℕ) → is_marked (set marks n false) m ≡ true → test m ≡ true = λ m h. and_from (reads_in nets n m || between order start bound m) (not (is_only (asked_of asked m))) (or_right (reads_in nets n m) (between order start bound m) (between_further order start until bound m (omega arith) (w.each m h))) (ap not (free.each m h)) in
    settle nets order starts asked bounds values end place bound v o lt (omega arith) room room_bound s (omega (arith, was.above)) (omega (arith, was.low)) least.passes
    (λ u less.
    ⊎_elim
    (λ (e : u ≡ at n). record { none = λ to sol a is. clash.none to sol (all_alike marks n test to at room_marks further a (is ∙ e)) })
    (⊎_elim
    (λ (l : u < at n). refuted_more nets order asked (rests_on nets order asked start old n) test at at n u (λ m h. rests_further nets order asked start old bound n m (omega arith) h) (record { same = λ m h. refl }) (was.less u l))
    (λ (g : at n < u). refuted_now nets order starts asked test at n u o s.given (has_at order place lt) (λ m r e. rests_reads nets order asked start bound n m r e) (least.none u (omega arith) less)))
    (cases_order u (at n)))

-- the marks behind a net that has no other value: the others, those that it reads, and those that its refused values rest on, but
-- for nets of which one value is asked for
pub record HandsOn (order : List NetId) (asked : List Asked) (marks next : List Bool) (fanins : List NetId) (n start bound : ℕ) : Type 0 where
  pub each : (m : ℕ) → is_marked next m ≡ ((is_marked (set marks n false) m || (has_id fanins m && not (is_only (asked_of asked m)))) || (has_id (slice_range order start bound) m && not (is_only (asked_of asked m))))

hands_rest : (order : List NetId) (asked : List Asked) (marks next : List Bool) (fanins : List NetId) (n start bound m : ℕ) → HandsOn order asked marks next fanins n start bound → is_marked (set marks n false) m ≡ true → is_marked next m ≡ true
hands_rest order asked marks next fanins n start bound m h e =
    let open_fanin = has_id fanins m && not (is_only (asked_of asked m)) in
    let open_first = has_id (slice_range order start bound) m && not (is_only (asked_of asked m)) in
    h.each m ∙ or_left (is_marked (set marks n false) m || open_fanin) open_first (or_left (is_marked (set marks n false) m) open_fanin e)

hands_rests_on : (nets : List (Option FlatNet)) (order : List NetId) (asked : List Asked) (marks next : List Bool) (fanins : List NetId) (n start bound m : ℕ) → start ≤ bound → IsAscending (λ m. net_reads (slot nets n) m) fanins → HandsOn order asked marks next fanins n start bound → rests_on nets order asked start bound n m ≡ true → is_marked next m ≡ true
hands_rests_on nets order asked marks next fanins n start bound m le f h e =
    let free = not (is_only (asked_of asked m)) in
    let first = has_id (slice_range order start bound) m in
    let p = and_parts (reads_in nets n m || between order start bound m) free e in
    ⊎_elim
    (λ (r : reads_in nets n m ≡ true). h.each m ∙ or_left (is_marked (set marks n false) m || (has_id fanins m && free)) (first && free) (or_right (is_marked (set marks n false) m) (has_id fanins m && free) (and_from (has_id fanins m) free (f.members m ∙ r) p.1)))
    (λ (b : between order start bound m ≡ true). h.each m ∙ or_right (is_marked (set marks n false) m || (has_id fanins m && free)) (first && free) (and_from first free (slice_between order start bound m le b) p.1))
    (or_cases (reads_in nets n m) (between order start bound m) p.0)

-- the net has no other value: the nets clash that are marked then
pub hand_on : (nets : List (Option FlatNet)) (order : List NetId) (starts : List ℕ) (asked : List Asked) (marks next : List Bool) (fanins : List NetId) (bounds : List ℕ) (at : ℕ → ℕ) (end place : ℕ) → IsWay nets order starts asked → place < length order → place < end → net_at order place < length marks → AreSettled nets order starts asked bounds at end → NoneAlike nets order asked (is_marked marks) at → IsAscending (λ m. net_reads (slot nets (net_at order place)) m) fanins → HandsOn order asked marks next fanins (net_at order place) (slice_index starts place) (slice_index bounds place) → NoneFrom (may_have nets (asked_of asked (net_at order place)) at (net_at order place)) (at (net_at order place) + 1) → NoneAlike nets order asked (is_marked next) at
hand_on nets order starts asked marks next fanins bounds at end place o lt le room s clash f h least =
    let n = net_at order place in
    let start = slice_index starts place in
    let old = slice_index bounds place in
    let was = s.each place le in
    let test = is_marked next in
    let rests : (m : ℕ) → rests_on nets order asked start old n m ≡ true → test m ≡ true = λ m e. hands_rests_on nets order asked marks next fanins n start old m was.above f h e in
    record {
      none = λ to sol a.
          ⊎_elim
          (λ (e : to n ≡ at n). clash.none to sol (all_alike marks n test to at room (λ m marked. hands_rest order asked marks next fanins n start old m h marked) a e))
          (⊎_elim
          (λ (l : to n < at n). (was.less (to n) l).none to sol (alike_less (rests_on nets order asked start old n) test to at rests a) refl)
          (λ (g : at n < to n). (refuted_now nets order starts asked test at n (to n) o s.given (has_at order place lt) (λ m r e. rests m (rests_reads nets order asked start old n m r e)) (least.none (to n) (omega arith))).none to sol a refl))
          (cases_order (to n) (at n));
    }

-- but for the net at the last place the marked ones lie before it
rest_within : (marks : List Bool) (order : List NetId) (start place m : ℕ) → place < length order → net_at order place < length marks → MarkedWithin marks order start (place + 1) → is_marked (set marks (net_at order place) false) m ≡ true → between order start place m ≡ true
rest_within marks order start place m lt room w h =
    let p = unmarked marks (net_at order place) m room h in
    between_less order start place m lt p.0 (w.each m p.1)

-- they lie before it, also where it isn't marked
pub turn_within : (marks : List Bool) (order : List NetId) (start place : ℕ) → place < length order → net_at order place < length marks → MarkedWithin marks order start (place + 1) → MarkedWithin (set marks (net_at order place) false) order start place
turn_within marks order start place lt room w = record { each = λ m h. rest_within marks order start place m lt room w h }

pub unmarked_within : (marks : List Bool) (order : List NetId) (start place : ℕ) → place < length order → is_marked marks (net_at order place) ≡ false → MarkedWithin marks order start (place + 1) → MarkedWithin marks order start place
unmarked_within marks order start place lt none w = record {
  each = λ m h. between_less order start place m lt (λ e. false≢true (sym none ∙ (ap (is_marked marks) (sym e) ∙ h))) (w.each m h);
}

pub hand_within : (nets : List (Option FlatNet)) (order : List NetId) (starts : List ℕ) (asked : List Asked) (marks next : List Bool) (fanins : List NetId) (bounds : List ℕ) (at : ℕ → ℕ) (end place : ℕ) → IsWay nets order starts asked → place < length order → place < end → net_at order place < length marks → AreSettled nets order starts asked bounds at end → IsAscending (λ m. net_reads (slot nets (net_at order place)) m) fanins → HandsOn order asked marks next fanins (net_at order place) (slice_index starts place) (slice_index bounds place) → MarkedWithin marks order (slice_index starts place) (place + 1) → MarkedWithin next order (slice_index starts place) place
hand_within nets order starts asked marks next fanins bounds at end place o lt le room s f h w =
    let n = net_at order place in
    let start = slice_index starts place in
    let old = slice_index bounds place in
    let was = s.each place le in
    record {
      each = λ m marked.
          let free = not (is_only (asked_of asked m)) in
          let first = has_id (slice_range order start old) m in
          ⊎_elim
          (λ (y : (is_marked (set marks n false) m || (has_id fanins m && free)) ≡ true).
          ⊎_elim
          (λ (rest : is_marked (set marks n false) m ≡ true). rest_within marks order start place m lt room w rest)
          (λ (r : (has_id fanins m && free) ≡ true). let p = and_parts (has_id fanins m) free r in o.behind place m lt (sym (f.members m) ∙ p.0) (not-true (is_only (asked_of asked m)) p.1))
          (or_cases (is_marked (set marks n false) m) (has_id fanins m && free) y))
          (λ (b : (first && free) ≡ true). between_further order start old place m was.low (between_slice order start old m was.above o.once (and_parts first free b).0))
          (or_cases (is_marked (set marks n false) m || (has_id fanins m && free)) (first && free) (sym (h.each m) ∙ marked));
    }

pub hand_open : (order : List NetId) (asked : List Asked) (marks next : List Bool) (fanins : List NetId) (n start bound : ℕ) → HandsOn order asked marks next fanins n start bound → AreOpen asked (set marks n false) → AreOpen asked next
hand_open order asked marks next fanins n start bound h free_rest = record {
  each = λ m marked.
      let free = not (is_only (asked_of asked m)) in
      let first = has_id (slice_range order start bound) m in
      ⊎_elim
      (λ (y : (is_marked (set marks n false) m || (has_id fanins m && free)) ≡ true).
      ⊎_elim
      (λ (rest : is_marked (set marks n false) m ≡ true). free_rest.each m rest)
      (λ (r : (has_id fanins m && free) ≡ true). not-true (is_only (asked_of asked m)) (and_parts (has_id fanins m) free r).1)
      (or_cases (is_marked (set marks n false) m) (has_id fanins m && free) y))
      (λ (b : (first && free) ≡ true). not-true (is_only (asked_of asked m)) (and_parts first free b).1)
      (or_cases (is_marked (set marks n false) m || (has_id fanins m && free)) (first && free) (sym (h.each m) ∙ marked));
}

pub turn_open : (asked : List Asked) (marks : List Bool) (n : ℕ) → n < length marks → AreOpen asked marks → AreOpen asked (set marks n false)
turn_open asked marks n lt o = record { each = λ m h. o.each m (unmarked marks n m lt h).1 }

pub stuck_open : (asked : List Asked) (marks : List Bool) (fanins : List NetId) → ((m : ℕ) → is_marked marks m ≡ (has_id fanins m && not (is_only (asked_of asked m)))) → AreOpen asked marks
stuck_open asked marks fanins e = record { each = λ m h. not-true (is_only (asked_of asked m)) (and_parts (has_id fanins m) (not (is_only (asked_of asked m))) (sym (e m) ∙ h)).1 }

-- at the start of a part no net is marked: there is no solution
pub nothing_marked : (nets : List (Option FlatNet)) (order : List NetId) (asked : List Asked) (marks : List Bool) (start : ℕ) (at : ℕ → ℕ) → MarkedWithin marks order start start → NoneAlike nets order asked (is_marked marks) at → NoSolution nets order asked
nothing_marked nets order asked marks start at w clash = record {
  none = λ to sol. clash.none to sol (record { same = λ m h. absurd (between_none order start m (w.each m h)) });
}
