-- The order of nets once each net of it is done with: it has every net, or some nets wait for one another and have no ranks.
use Rattle.std.proofs.Common.{◌≡◌, ℕ, suc, zero, ◌+◌, ◌-◌, ◌<◌, ◌≤◌, true, false, not, List, [], ◌∷◌, length, Some, ⊎_elim, refl, sym, ◌∙◌, ap, arith, get_or, take}
use Rattle.std.specs.Prelude.{nat_lt, slice_get}
use Rattle.std.specs.List.{list_all}
use Rattle.std.proofs.lemmas.Bool.{cases_lt, cases_Bool, and_parts, and_from, ltb-true, ltb-false, lt-ltb, le-ltb}
use Rattle.std.proofs.lemmas.List.{get_or_past, get_or-take, length-take}
use Rattle.std.proofs.lemmas.Option.{slice_get_within, get_or_from_slice_get}
use Rattle.mv_base.specs.declared.number.NetId.{NetId}
use Rattle.mv_graph.specs.declared.sorting.Sorting.{Sorting}
use Rattle.mv_graph.specs.Nets.{all_differ, has_id, row, AllBelow}
use Rattle.mv_graph.specs.Above.{IsAcyclic, reads_by}
use Rattle.mv_graph.specs.Orders.{IsSortedBy}
use Rattle.mv_graph.proofs.Ranks.{IsRanked, ranked_acyclic}
use Rattle.mv_graph.proofs.Clear.{not_unranked}
use Rattle.mv_graph.specs.Sorting.{net_at, rank_in, IsSorting, Waits, ArePlaced}
use Rattle.mv_graph.proofs.Nets.{has_id-at}
use Rattle.mv_graph.proofs.Columns.{id_at, column_below}

-- nets each of which has another of them as a column have no rank
no_rank_below : (columns : List (List NetId)) (Stuck : ℕ → Type 0) → ((n : ℕ) → Stuck n → (m : ℕ) × (has_id (row columns n) m ≡ true) × Stuck m) → (r : IsRanked (reads_by columns)) → (bound n : ℕ) → r.rank n < bound → Stuck n → ⊥
no_rank_below columns Stuck next r zero n below h = omega arith
no_rank_below columns Stuck next r (suc b) n below h =
    let m = next n h in
    no_rank_below columns Stuck next r b m.0 (omega (arith, r.falls n m.0 m.1)) m.2

no_rank : (columns : List (List NetId)) (Stuck : ℕ → Type 0) → ((n : ℕ) → Stuck n → (m : ℕ) × (has_id (row columns n) m ≡ true) × Stuck m) → IsRanked (reads_by columns) → (n : ℕ) → Stuck n → ⊥
no_rank columns Stuck next r n h = no_rank_below columns Stuck next r (r.rank n + 1) n (omega arith) h

all_at : (xs : List ℕ) → list_all (λ r. nat_lt 0 r) xs ≡ true → (k : ℕ) → k < length xs → 0 < get_or xs k 0
all_at [] e k h = omega arith
all_at (x ∷ xs) e zero h = ltb-true 0 x (and_parts (nat_lt 0 x) (list_all (λ r. nat_lt 0 r) xs) e).0
all_at (x ∷ xs) e (suc k) h = all_at xs (and_parts (nat_lt 0 x) (list_all (λ r. nat_lt 0 r) xs) e).1 k (omega arith)

not_all_at : (xs : List ℕ) → list_all (λ r. nat_lt 0 r) xs ≡ false → (k : ℕ) × (k < length xs) × (get_or xs k 0 ≡ 0)
not_all_at [] e = cc
not_all_at (x ∷ xs) e =
    ⊎_elim (λ (y : nat_lt 0 x ≡ true). let r = not_all_at xs (rw y at e) in (suc r.0, omega (arith, r.1), r.2)) (λ (z : nat_lt 0 x ≡ false). let l = ltb-false 0 x z in (0, omega arith, omega arith))
    (cases_Bool (nat_lt 0 x))

-- nets that stand at different places of a list, each at one, all differ
all_differ-from_places : (nets : List NetId) → ((i k : ℕ) → i < length nets → k < length nets → net_at nets i ≡ net_at nets k → i ≡ k) → all_differ nets ≡ true
all_differ-from_places [] once = refl
all_differ-from_places (n ∷ ns) once =
    let apart : has_id ns n.0 ≡ true → ⊥ = λ e.
    let r = id_at ns n.0 e in
    let same : 0 ≡ suc r.0 = once 0 (suc r.0) (omega arith) (omega (arith, r.1)) (sym r.2) in
    omega arith in
    let rest = all_differ-from_places ns (λ i k l m e. let same : suc i ≡ suc k = once (suc i) (suc k) (omega arith) (omega arith) e in omega arith) in
    and_from (not (has_id ns n.0)) (all_differ ns) (⊎_elim (λ (y : has_id ns n.0 ≡ true). absurd (apart y)) (λ (f : has_id ns n.0 ≡ false). rw f refl) (cases_Bool (has_id ns n.0))) rest

-- every net has a place in the order
place_of : (columns : List (List NetId)) (s : Sorting) (n : ℕ) → IsSorting columns s → 0 < rank_in s n → (k : ℕ) × (rank_in s n ≡ k + 1) × (k < length s.order.items) × (net_at s.order.items k ≡ n)
place_of columns s n h ranked =
    let k = rank_in s n - 1 in
    let e : rank_in s n ≡ k + 1 = omega arith in
    (k, e, omega (arith, h.small n), h.found n k e)

-- a net of the order is one of its nets
in_order : (nets : List NetId) (n k : ℕ) → k < length nets → net_at nets k ≡ n → has_id nets n ≡ true
in_order nets n k inside e = let none : NetId = record { 0 = 0 } in rw (← e) (has_id-at nets k none inside)

members_at_end : (columns : List (List NetId)) (s : Sorting) → IsSorting columns s → ((n : ℕ) → n < length columns → 0 < rank_in s n) → (n : ℕ) → has_id s.order.items n ≡ nat_lt n (length columns)
members_at_end columns s h all n =
    ⊎_elim
    (λ (l : n < length columns).
    let p = place_of columns s n h (all n l) in
    in_order s.order.items n p.0 p.2 p.3 ∙ sym (lt-ltb n (length columns) l))
    (λ (r : length columns ≤ n).
    let out : has_id s.order.items n ≡ true → ⊥ = λ e. let p = id_at s.order.items n e in omega (arith, h.within p.0 p.1, p.2) in
    ⊎_elim (λ (y : has_id s.order.items n ≡ true). absurd (out y)) (λ (f : has_id s.order.items n ≡ false). f ∙ sym (le-ltb n (length columns) r)) (cases_Bool (has_id s.order.items n)))
    (cases_lt n (length columns))

behind_at_end : (columns : List (List NetId)) (s : Sorting) (place : ℕ) (n : NetId) (m : ℕ) → IsSorting columns s → slice_get s.order.items place ≡ Some n → has_id (row columns n.0) m ≡ true → has_id (take place s.order.items) m ≡ true
behind_at_end columns s place n m h at column =
    let none : NetId = record { 0 = 0 } in
    let inside : place < length s.order.items = slice_get_within s.order.items place n at in
    let is : net_at s.order.items place ≡ n.0 = ap (λ (x : NetId). x.0) (get_or_from_slice_get s.order.items place n none at) in
    let rank : rank_in s n.0 ≡ place + 1 = rw (← is) (h.stands place inside) in
    let p = place_of columns s m h (h.has n.0 m (omega arith) column) in
    let before : p.0 < place = omega (arith, h.falls n.0 m (omega arith) column, p.1) in
    in_order (take place s.order.items) m p.0 (simp length-take (omega arith)) (ap (λ (x : NetId). x.0) (get_or-take place s.order.items p.0 none before) ∙ p.3)

pub sorted_at_end : (columns : List (List NetId)) (s : Sorting) (i : ℕ) → ArePlaced columns s i (length columns) → list_all (λ r. nat_lt 0 r) s.ranks.items ≡ true → IsSortedBy columns s.order.items
sorted_at_end columns s i p all =
    let h = p.sorting in
    record {
      members = members_at_end columns s h (λ n l. all_at s.ranks.items all n (omega (arith, h.ranks)));
      once = all_differ-from_places s.order.items (λ i k l m e. let f : rank_in s (net_at s.order.items k) ≡ i + 1 = rw (← e) (h.stands i l) in omega (arith, h.stands k m));
      behind = λ place n m at column. behind_at_end columns s place n m h at column;
    }

ranked_at_end : (columns : List (List NetId)) (s : Sorting) → IsSorting columns s → list_all (λ r. nat_lt 0 r) s.ranks.items ≡ true → IsRanked (reads_by columns)
ranked_at_end columns s h all = record {
  rank = rank_in s;
  falls = λ n m e.
      ⊎_elim
      (λ (l : n < length columns). h.falls n m (all_at s.ranks.items all n (omega (arith, h.ranks))) e)
      (λ (r : length columns ≤ n). let f : false ≡ true = rw (get_or_past columns n [] r) at e in cc)
      (cases_lt n (length columns));
}

unranked_at_end : (columns : List (List NetId)) (s : Sorting) → AllBelow columns → ArePlaced columns s (length s.order.items) (length columns) → list_all (λ r. nat_lt 0 r) s.ranks.items ≡ false → IsRanked (reads_by columns) → ⊥
unranked_at_end columns s below p all r =
    let Stuck : ℕ → Type 0 = λ n. (n < length columns) × (rank_in s n ≡ 0) in
    let first = not_all_at s.ranks.items all in
    no_rank columns Stuck
    (λ n h.
    let q : Waits columns s (length s.order.items) n = (p.placed n h.0).waits h.1 in
    let inside : q.above < length columns = column_below columns n q.above below q.column in
    let zero_rank : rank_in s q.above ≡ 0 =
    ⊎_elim (λ (y : 0 < rank_in s q.above). absurd (omega (arith, q.later y, p.sorting.small q.above))) (λ (z : rank_in s q.above ≤ 0). omega arith)
    (cases_lt 0 (rank_in s q.above)) in
    (q.above, q.column, (inside, zero_rank)))
    r first.0 (omega (arith, first.1, p.sorting.ranks), first.2)

-- where each net has a rank, none is above itself, and else some net is
pub acyclic_at_end : (columns : List (List NetId)) (s : Sorting) → IsSorting columns s → list_all (λ r. nat_lt 0 r) s.ranks.items ≡ true → IsAcyclic (reads_by columns)
acyclic_at_end columns s h all = ranked_acyclic (reads_by columns) (ranked_at_end columns s h all)

pub cyclic_at_end : (columns : List (List NetId)) (s : Sorting) → AllBelow columns → ArePlaced columns s (length s.order.items) (length columns) → list_all (λ r. nat_lt 0 r) s.ranks.items ≡ false → IsAcyclic (reads_by columns) → ⊥
cyclic_at_end columns s below p all a = not_unranked columns below a (unranked_at_end columns s below p all)

pub ruleset at_end = (acyclic_at_end, cyclic_at_end)
