-- Nets that are put on the way of a search one by one.
use Rattle.std.proofs.Common.{◌≡◌, ◌∙◌, ℕ, suc, ◌+◌, ◌<◌, ◌≤◌, true, false, ◌&&◌, ◌||◌, not, nat_eq, nat_le, nat_lt, List, [], ◌∷◌, length, set, take, Option, refl, sym, ap, subst, ⊎_elim, eq-eqb, eqb-true, arith, get_or-set_same, get_or-set_other}
use Rattle.std.specs.Prelude.{slice_index}
use Rattle.std.specs.List.{list_all}
use Rattle.std.proofs.lemmas.Bool.{cases_Bool, cases_eq, and_from, and_parts, or_cases, false≢true, lt-ltb, ltb-true, le-leb, leb-true}
use Rattle.std.proofs.lemmas.List.{length-set}
use Rattle.mv_base.specs.declared.number.NetId.{NetId}
use Rattle.mv_graph.specs.Nets.{has_id, all_differ}
use Rattle.mv_graph.specs.Sorting.{net_at}
use Rattle.mv_graph.proofs.Columns.{id_at}
use Rattle.mv_net.specs.declared.parts.FlatNet.{FlatNet}
use Rattle.mv_net.specs.Nets.{reads_in}
use Rattle.mv_net.specs.Index.{is_held}
use Rattle.mv_net.specs.Order.{IsOrder}
use Rattle.mv_solve.specs.declared.asked.Asked.{Asked}
use Rattle.mv_solve.specs.Asked.{asked_of}
use Rattle.mv_solve.specs.Known.{is_only}
use Rattle.mv_solve.specs.Marks.{between}
use Rattle.mv_solve.specs.Put.{stands, StandsAt, ArePut}
use Rattle.mv_solve.specs.Way.{IsWay}
use Rattle.mv_solve.proofs.Orders.{has_further, has_here, has_at, new_at, reads_before}
use Rattle.mv_solve.proofs.Spreading.{reads_held}

-- a net that is found standing stands
pub stands_at : (way : List NetId) (places : List ℕ) (start end n : ℕ) → stands way places start end n ≡ true → StandsAt way start end n
stands_at way places start end n h =
    let place = slice_index places n in
    let p = and_parts (nat_le start place) (nat_lt place end && nat_eq (net_at way place) n) h in
    let q = and_parts (nat_lt place end) (nat_eq (net_at way place) n) p.1 in
    record { place = place; from = leb-true start place p.0; to = ltb-true place end q.0; is = eqb-true (net_at way place) n q.1 }

-- a net that is put is found standing
pub put_stands : (nets : List (Option FlatNet)) (known : List Asked) (way : List NetId) (starts places : List ℕ) (end q n : ℕ) → ArePut nets known way starts places end → q < end → net_at way q ≡ n → stands way places 0 end n ≡ true
put_stands nets known way starts places end q n p less here =
    let P : ℕ → Type 0 = λ k. slice_index places k ≡ q in
    let noted : slice_index places n ≡ q = subst P here (p.placed q less) in
    let Q : ℕ → Type 0 = λ k. (nat_le 0 k && (nat_lt k end && nat_eq (net_at way k) n)) ≡ true in
    subst Q (sym noted) (and_from (nat_le 0 q) (nat_lt q end && nat_eq (net_at way q) n) (le-leb 0 q (omega arith)) (and_from (nat_lt q end) (nat_eq (net_at way q) n) (lt-ltb q end less) (eq-eqb (net_at way q) n here)))

pub fanin_stands : (known : List Asked) (way : List NetId) (places : List ℕ) (start end : ℕ) (fanins : List NetId) (m : ℕ) → list_all (λ (k : NetId). is_only (asked_of known k.0) || stands way places start end k.0) fanins ≡ true → has_id fanins m ≡ true → is_only (asked_of known m) ≡ false → stands way places start end m ≡ true
fanin_stands known way places start end [] m all h e = absurd (false≢true h)
fanin_stands known way places start end (k ∷ fanins) m all h e =
    let here = is_only (asked_of known k.0) || stands way places start end k.0 in
    let rest = list_all (λ (k : NetId). is_only (asked_of known k.0) || stands way places start end k.0) fanins in
    let p = and_parts here rest all in
    ⊎_elim
    (λ (is : nat_eq k.0 m ≡ true).
    let same = eqb-true k.0 m is in
    let P : ℕ → Type 0 = λ j. (is_only (asked_of known j) || stands way places start end j) ≡ true in
    ⊎_elim
    (λ (only : is_only (asked_of known m) ≡ true). absurd (false≢true (sym e ∙ only)))
    (λ (s : stands way places start end m ≡ true). s)
    (or_cases (is_only (asked_of known m)) (stands way places start end m) (subst P same p.0)))
    (λ (there : has_id fanins m ≡ true). fanin_stands known way places start end fanins m p.1 there e)
    (or_cases (nat_eq k.0 m) (has_id fanins m) h)

-- ---- one net more

net_kept : (way : List NetId) (end q : ℕ) (n : NetId) → q < end → net_at (set way end n) q ≡ net_at way q
net_kept way end q n less = let none : NetId = record { 0 = 0 } in ap (λ (k : NetId). k.0) (get_or-set_other way end q n none (λ e. absurd (omega arith)))

net_new : (way : List NetId) (end : ℕ) (n : NetId) → end < length way → net_at (set way end n) end ≡ n.0
net_new way end n lt = let none : NetId = record { 0 = 0 } in ap (λ (k : NetId). k.0) (get_or-set_same way end n none lt)

stands_kept : (way : List NetId) (start q m end : ℕ) (n : NetId) → q ≤ end → StandsAt way start q m → StandsAt (set way end n) start q m
stands_kept way start q m end n le s =
    let low : s.place < end = omega (arith, s.to) in
    record { place = s.place; from = s.from; to = s.to; is = net_kept way end s.place n low ∙ s.is }

starts_kept : (starts : List ℕ) (end start q : ℕ) → q < end → slice_index (set starts end start) q ≡ slice_index starts q
starts_kept starts end start q less = get_or-set_other starts end q start 0 (λ e. absurd (omega arith))

pub put_more : (nets : List (Option FlatNet)) (known : List Asked) (way : List NetId) (starts places : List ℕ) (start end : ℕ) (n : NetId) → ArePut nets known way starts places end → start ≤ end → end < length way → n.0 < length places → ((q : ℕ) → start ≤ q → q < end → slice_index starts q ≡ start) → is_held nets n.0 ≡ true → stands way places 0 end n.0 ≡ false → ((m : ℕ) → reads_in nets n.0 m ≡ true → is_only (asked_of known m) ≡ false → stands way places start end m ≡ true) → ArePut nets known (set way end n) (set starts end start) (set places n.0 end) (end + 1)
put_more nets known way starts places start end n p above lt room part held new fanins =
    let next = set way end n in
    let begun = set starts end start in
    let here : net_at next end ≡ n.0 = net_new way end n lt in
    let start_here : slice_index begun end ≡ start = get_or-set_same starts end start 0 (omega (arith, p.long)) in
    record {
      inside = omega (arith, length-set way end n);
      long = length-set starts end start ∙ (p.long ∙ sym (length-set way end n));
      held = λ q less.
          ⊎_elim
          (λ (e : q ≡ end). let P : ℕ → Type 0 = λ k. is_held nets (net_at next k) ≡ true in subst P (sym e) (ap (is_held nets) here ∙ held))
          (λ (ne : q ≡ end → ⊥). ap (is_held nets) (net_kept way end q n (omega arith)) ∙ p.held q (omega arith))
          (cases_eq q end);
      placed = λ q less.
          ⊎_elim
          (λ (e : q ≡ end). let P : ℕ → Type 0 = λ k. slice_index (set places n.0 end) (net_at next k) ≡ k in subst P (sym e) (ap (slice_index (set places n.0 end)) here ∙ get_or-set_same places n.0 end 0 room))
          (λ (ne : q ≡ end → ⊥).
          let below : q < end = omega arith in
          let other : net_at way q ≡ n.0 → ⊥ = λ same. false≢true (sym new ∙ put_stands nets known way starts places end q n.0 p below same) in
          ap (slice_index (set places n.0 end)) (net_kept way end q n below) ∙ (get_or-set_other places n.0 (net_at way q) end 0 other ∙ p.placed q below))
          (cases_eq q end);
      low = λ q less.
          ⊎_elim
          (λ (e : q ≡ end). let P : ℕ → Type 0 = λ k. slice_index begun k ≤ k in subst P (sym e) (omega (arith, start_here)))
          (λ (ne : q ≡ end → ⊥). let below : q < end = omega arith in omega (arith, starts_kept starts end start q below, p.low q below))
          (cases_eq q end);
      same = λ k q from to less.
          ⊎_elim
          (λ (e : q ≡ end).
          let P : ℕ → Type 0 = λ j. slice_index begun j ≡ start in
          let at_q : slice_index begun q ≡ start = subst P (sym e) start_here in
          ⊎_elim
          (λ (k_end : k ≡ end). subst P (sym k_end) start_here ∙ sym at_q)
          (λ (k_ne : k ≡ end → ⊥).
          let k_low : k < end = omega arith in
          starts_kept starts end start k k_low ∙ (part k (omega (arith, from, at_q)) k_low ∙ sym at_q))
          (cases_eq k end))
          (λ (ne : q ≡ end → ⊥).
          let below : q < end = omega arith in
          let k_low : k < end = omega arith in
          let was = starts_kept starts end start q below in
          starts_kept starts end start k k_low ∙ (p.same k q (omega (arith, from, was)) to below ∙ sym was))
          (cases_eq q end);
      behind = λ q m less r e.
          ⊎_elim
          (λ (is : q ≡ end).
          let P : ℕ → Type 0 = λ k. reads_in nets (net_at next k) m ≡ true in
          let reads : reads_in nets n.0 m ≡ true = ap (λ k. reads_in nets k m) (sym here) ∙ subst P is r in
          let s = stands_kept way start end m end n (omega arith) (stands_at way places start end m (fanins m reads e)) in
          let Q : ℕ → Type 0 = λ k. StandsAt next k end m in
          let R : ℕ → Type 0 = λ k. StandsAt next (slice_index begun k) k m in
          subst R (sym is) (subst Q (sym start_here) s))
          (λ (ne : q ≡ end → ⊥).
          let below : q < end = omega arith in
          let s = p.behind q m below (ap (λ k. reads_in nets k m) (sym (net_kept way end q n below)) ∙ r) e in
          let Q : ℕ → Type 0 = λ k. StandsAt next k q m in
          subst Q (sym (starts_kept starts end start q below)) (stands_kept way (slice_index starts q) q m end n (omega arith) s))
          (cases_eq q end);
    }

pub part_more : (starts : List ℕ) (start end q : ℕ) → end < length starts → ((k : ℕ) → start ≤ k → k < end → slice_index starts k ≡ start) → start ≤ q → q < end + 1 → slice_index (set starts end start) q ≡ start
part_more starts start end q lt part from less =
    ⊎_elim
    (λ (e : q ≡ end). let P : ℕ → Type 0 = λ k. slice_index (set starts end start) k ≡ start in subst P (sym e) (get_or-set_same starts end start 0 lt))
    (λ (ne : q ≡ end → ⊥). starts_kept starts end start q (omega arith) ∙ part q from (omega arith))
    (cases_eq q end)

-- nothing is put yet
pub put_nothing : (nets : List (Option FlatNet)) (known : List Asked) (way : List NetId) (starts places : List ℕ) → length starts ≡ length way → ArePut nets known way starts places 0
put_nothing nets known way starts places long = record {
  inside = omega arith;
  long = long;
  held = λ q less. absurd (omega arith);
  placed = λ q less. absurd (omega arith);
  low = λ q less. absurd (omega arith);
  same = λ p q from to less. absurd (omega arith);
  behind = λ q m less r e. absurd (omega arith);
}

-- ---- all nets are put

-- nets that differ by their places differ
differ_by : (ns : List NetId) → ((p q : ℕ) → p < length ns → q < length ns → net_at ns p ≡ net_at ns q → p ≡ q) → all_differ ns ≡ true
differ_by [] once = refl
differ_by (x ∷ xs) once =
    and_from (not (has_id xs x.0)) (all_differ xs)
    (⊎_elim
    (λ (h : has_id xs x.0 ≡ true).
    let p = id_at xs x.0 h in
    let low : suc p.0 < length (x ∷ xs) = omega (arith, p.1) in
    let same : suc p.0 ≡ 0 = once (suc p.0) 0 low (omega arith) p.2 in
    absurd (omega (arith, same)))
    (λ (h : has_id xs x.0 ≡ false). ap not h)
    (cases_Bool (has_id xs x.0)))
    (differ_by xs (λ p q lp lq e. let next : suc p ≡ suc q = once (suc p) (suc q) (omega arith) (omega arith) e in omega (arith, next)))

member_put : (way : List NetId) (places : List ℕ) (end : ℕ) (order : List NetId) (m : ℕ) → list_all (λ (k : NetId). stands way places 0 end k.0) order ≡ true → has_id order m ≡ true → stands way places 0 end m ≡ true
member_put way places end [] m all h = absurd (false≢true h)
member_put way places end (k ∷ order) m all h =
    let p = and_parts (stands way places 0 end k.0) (list_all (λ (k : NetId). stands way places 0 end k.0) order) all in
    ⊎_elim
    (λ (is : nat_eq k.0 m ≡ true). let P : ℕ → Type 0 = λ j. stands way places 0 end j ≡ true in subst P (eqb-true k.0 m is) p.0)
    (λ (there : has_id order m ≡ true). member_put way places end order m p.1 there)
    (or_cases (nat_eq k.0 m) (has_id order m) h)

-- a net that stands before a place, in a part, is between
stands_between : (way : List NetId) (start end m : ℕ) → all_differ way ≡ true → end ≤ length way → StandsAt way start end m → between way start end m ≡ true
stands_between way start end m once inside s =
    let low : s.place < length way = omega (arith, s.to) in
    let P : ℕ → Type 0 = λ k. has_id (take (s.place + 1) way) k ≡ true in
    let there : has_id (take end way) m ≡ true = has_further way (s.place + 1) end m (omega (arith, s.to)) (subst P s.is (has_here way s.place low)) in
    and_from (has_id (take end way) m) (not (has_id (take start way) m)) there
    (⊎_elim
    (λ (h : has_id (take start way) m ≡ true).
    let Q : ℕ → Type 0 = λ k. has_id (take s.place way) k ≡ true in
    absurd (false≢true (sym (new_at way s.place once low) ∙ subst Q (sym s.is) (has_further way start s.place m s.from h))))
    (λ (h : has_id (take start way) m ≡ false). ap not h)
    (cases_Bool (has_id (take start way) m)))

pub put_all : (nets : List (Option FlatNet)) (order : List NetId) (known : List Asked) (way : List NetId) (starts places : List ℕ) (end : ℕ) → IsOrder nets order → ArePut nets known way starts places end → length way ≤ end → list_all (λ (k : NetId). stands way places 0 end k.0) order ≡ true → IsWay nets way starts known
put_all nets order known way starts places end o p all put =
    let once : all_differ way ≡ true = differ_by way (λ a b la lb e. sym (p.placed a (omega (arith, la))) ∙ (ap (slice_index places) e ∙ p.placed b (omega (arith, lb)))) in
    record {
      members = λ n.
          ⊎_elim
          (λ (h : is_held nets n ≡ true).
          let s = stands_at way places 0 end n (member_put way places end order n put (o.members n ∙ h)) in
          let P : ℕ → Type 0 = λ k. has_id way k ≡ true in
          subst P s.is (has_at way s.place (omega (arith, s.to, p.inside))) ∙ sym h)
          (λ (none : is_held nets n ≡ false).
          ⊎_elim
          (λ (h : has_id way n ≡ true).
          let q = id_at way n h in
          absurd (false≢true (sym none ∙ (ap (is_held nets) (sym q.2) ∙ p.held q.0 (omega (arith, q.1, all))))))
          (λ (h : has_id way n ≡ false). h ∙ sym none)
          (cases_Bool (has_id way n)))
          (cases_Bool (is_held nets n));
      once = once;
      held = (reads_held nets order o).each;
      long = p.long;
      low = λ q lt. p.low q (omega arith);
      same = λ k q from to lt. p.same k q from to (omega arith);
      behind = λ q m lt r e. stands_between way (slice_index starts q) q m once (omega arith) (p.behind q m (omega arith) r e);
    }

-- the order itself, as one part
pub one_part : (nets : List (Option FlatNet)) (order : List NetId) (known : List Asked) (way : List NetId) (starts : List ℕ) → IsOrder nets order → way ≡ order → length starts ≡ length order → ((p : ℕ) → slice_index starts p ≡ 0) → IsWay nets way starts known
one_part nets order known way starts o is long once =
    let P : List NetId → Type 0 = λ ns. IsWay nets ns starts known in
    subst P (sym is) (record {
      members = o.members;
      once = o.once;
      held = (reads_held nets order o).each;
      long = long;
      low = λ q lt. omega (arith, once q);
      same = λ k q from to lt. once k ∙ sym (once q);
      behind = λ q m lt r e.
          let Q : ℕ → Type 0 = λ k. between order k q m ≡ true in
          subst Q (sym (once q)) (and_from (has_id (take q order) m) (not (has_id (take 0 order) m)) (reads_before nets order q m o lt r) refl);
    })
