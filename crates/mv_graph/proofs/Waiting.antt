-- Nets in an order in which each stands behind its columns: what looking at a net keeps.
use Rattle.std.proofs.Common.{◌≡◌, ◌≢◌, ℕ, ◌+◌, ◌-◌, ◌<◌, ◌≤◌, true, false, ◌||◌, List, [], ◌∷◌, ◌++◌, length, ◌⊎◌, ⊎_elim, inl, inr, refl, sym, ◌∙◌, ap, arith, get_or, set, take, get_or-set_same, get_or-set_other, length-set, length-append}
use Rattle.std.specs.Prelude.{nat_eq, All}
use Rattle.std.proofs.lemmas.Bool.{or_cases, or_left, or_right, eqb-true, eq-eqb, cases_eq, cases_lt, cases_Bool}
use Rattle.std.proofs.lemmas.List.{get_or_append_left, get_or-append_right, get_or_default, take_more}
use Rattle.std.proofs.lemmas.Grind.{get_or_head, get_or_default_zero}
use Rattle.mv_base.specs.declared.number.NetId.{NetId}
use Rattle.mv_graph.specs.declared.sorting.Sorting.{Sorting}
use Rattle.mv_graph.specs.Nets.{has_id, row, AllBelow}
use Rattle.mv_graph.specs.Sorting.{net_at, rank_in, waiters, IsSorting, Waits, IsPlaced, ArePlaced, HasWaited, HasFinished, HasReleased, HasLooked}
use Rattle.mv_graph.proofs.Nets.{has_id-append}
use Rattle.mv_graph.proofs.Nets.{has_id-at}
use Rattle.mv_graph.proofs.Columns.{id_at}

-- lists of waiting nets, where one more net waits
id_one : (n : ℕ) (net : NetId) → has_id (net ∷ []) n ≡ true → n ≡ net.0
id_one n net e = ⊎_elim (λ (y : nat_eq net.0 n ≡ true). sym (eqb-true net.0 n y)) (λ (z : false ≡ true). cc) (or_cases (nat_eq net.0 n) false e)

one_id : (net : NetId) → has_id (net ∷ []) net.0 ≡ true
one_id net = or_left (nat_eq net.0 net.0) false (eq-eqb net.0 net.0 refl)

waiter_more : (rows : List (List NetId)) (m a n : ℕ) (net : NetId) → m < length rows → has_id (row rows a) n ≡ true → has_id (row (set rows m (row rows m ++ net ∷ [])) a) n ≡ true
waiter_more rows m a n net h e =
    ⊎_elim
    (λ (y : a ≡ m).
    let f : has_id (row rows m) n ≡ true = rw (← y) e in
    rw (y, get_or-set_same rows m (row rows m ++ net ∷ []) [] h, has_id-append (row rows m) (net ∷ []) n)
    (or_left (has_id (row rows m) n) (has_id (net ∷ []) n) f))
    (λ (ne : a ≢ m). rw (get_or-set_other rows m a (row rows m ++ net ∷ []) [] ne) e)
    (cases_eq a m)

waiter_new : (rows : List (List NetId)) (m : ℕ) (net : NetId) → m < length rows → has_id (row (set rows m (row rows m ++ net ∷ [])) m) net.0 ≡ true
waiter_new rows m net h =
    rw (get_or-set_same rows m (row rows m ++ net ∷ []) [] h, has_id-append (row rows m) (net ∷ []) net.0)
    (or_right (has_id (row rows m) net.0) (has_id (net ∷ []) net.0) (one_id net))

waiter_was : (rows : List (List NetId)) (m a n : ℕ) (net : NetId) → m < length rows → has_id (row (set rows m (row rows m ++ net ∷ [])) a) n ≡ true → (has_id (row rows a) n ≡ true) ⊎ (n ≡ net.0)
waiter_was rows m a n net h e =
    ⊎_elim
    (λ (y : a ≡ m).
    let f : (has_id (row rows m) n || has_id (net ∷ []) n) ≡ true = rw (y, get_or-set_same rows m (row rows m ++ net ∷ []) [] h, has_id-append (row rows m) (net ∷ []) n) at e in
    ⊎_elim (λ (l : has_id (row rows m) n ≡ true). inl (rw y l)) (λ (r : has_id (net ∷ []) n ≡ true). inr (id_one n net r))
    (or_cases (has_id (row rows m) n) (has_id (net ∷ []) n) f))
    (λ (ne : a ≢ m). inl (rw (get_or-set_other rows m a (row rows m ++ net ∷ []) [] ne) at e))
    (cases_eq a m)

-- a net that waits keeps what is known of each net
passed_more : (columns : List (List NetId)) (s : Sorting) (n place : ℕ) → IsSorting columns s → n < length s.passed.items
    → ((k : ℕ) → get_or s.passed.items n 0 ≤ k → k < place → 0 < rank_in s (net_at (row columns n) k))
    → (m k : ℕ) → k < get_or (set s.passed.items n place) m 0 → 0 < rank_in s (net_at (row columns m) k)
passed_more columns s n place h inside before m k e =
    ⊎_elim
    (λ (y : m ≡ n).
    let f : k < place = rw (y, get_or-set_same s.passed.items n place 0 inside) at e in
    rw y (⊎_elim (λ (l : k < get_or s.passed.items n 0). h.known n k l) (λ (r : get_or s.passed.items n 0 ≤ k). before k r f) (cases_lt k (get_or s.passed.items n 0))))
    (λ (ne : m ≢ n). h.known m k (rw (get_or-set_other s.passed.items n m place 0 ne) at e))
    (cases_eq m n)

still_waits : (columns : List (List NetId)) (s t : Sorting) (net above : NetId) (place i n : ℕ) → above.0 < length s.waiting → HasWaited s t net place above → IsPlaced columns s i n → IsPlaced columns t i n
still_waits columns s t net above place i n h w p = record {
  waits = λ z.
      let q : Waits columns s i n = p.waits (rw (← w.ranks) z) in
      record {
        above = q.above;
        column = q.column;
        listed = rw w.waiting (waiter_more s.waiting above.0 q.above n net h q.listed);
        later = rw w.ranks q.later;
      };
}

sorting_waiting : (columns : List (List NetId)) (s t : Sorting) (net above : NetId) (place : ℕ) → IsSorting columns s → net.0 < length columns → above.0 < length s.waiting
    → ((k : ℕ) → get_or s.passed.items net.0 0 ≤ k → k < place → 0 < rank_in s (net_at (row columns net.0) k))
    → HasWaited s t net place above → IsSorting columns t
sorting_waiting columns s t net above place h inside listed before w =
    let in_passed : net.0 < length s.passed.items = omega (arith, h.passes) in
    record {
      ranks = rw w.ranks h.ranks;
      passes = rw (w.passed, length-set s.passed.items net.0 place) h.passes;
      lists = rw (w.waiting, length-set s.waiting above.0 (waiters s above.0 ++ net ∷ [])) h.lists;
      has = rw w.ranks h.has;
      falls = rw w.ranks h.falls;
      small = rw (w.ranks, w.order) h.small;
      found = rw (w.ranks, w.order) h.found;
      stands = rw (w.ranks, w.order) h.stands;
      within = rw w.order h.within;
      known = rw (w.ranks, w.passed) (passed_more columns s net.0 place h in_passed before);
      nets = λ m n e.
          ⊎_elim (λ (l : has_id (waiters s m) n ≡ true). h.nets m n l) (λ (r : n ≡ net.0). rw r inside)
          (waiter_was s.waiting above.0 m n net listed (rw w.waiting at e));
    }

looked_waiting : (columns : List (List NetId)) (s t : Sorting) (net above : NetId) (place : ℕ) → IsSorting columns s → net.0 < length columns → above.0 < length columns
    → has_id (row columns net.0) above.0 ≡ true → rank_in s above.0 ≡ 0
    → ((k : ℕ) → get_or s.passed.items net.0 0 ≤ k → k < place → 0 < rank_in s (net_at (row columns net.0) k))
    → HasWaited s t net place above → HasLooked columns s t (net ∷ [])
looked_waiting columns s t net above place h inside below column unranked before w =
    let listed : above.0 < length s.waiting = omega (arith, h.lists) in
    record {
      sorting = sorting_waiting columns s t net above place h inside listed before w;
      longer = rw w.order (omega arith);
      stays = λ i n _ p. still_waits columns s t net above place i n listed w p;
      placed = λ i n _ e.
          rw (id_one n net e) (record {
            waits = λ _. record {
              above = above.0;
              column = column;
              listed = rw w.waiting (waiter_new s.waiting above.0 net listed);
              later = rw w.ranks (λ (z : 0 < rank_in s above.0). absurd (omega arith));
            };
          });
    }

-- the ranks after a net is put into the order
record Grows (s t : Sorting) (n : ℕ) : Type 0 where
  new : rank_in t n ≡ length s.order.items + 1
  other : (m : ℕ) → m ≢ n → rank_in t m ≡ rank_in s m
  more : (m : ℕ) → 0 < rank_in s m → 0 < rank_in t m

grows : (s t : Sorting) (net : NetId) → net.0 < length s.ranks.items → HasFinished s t net → Grows s t net.0
grows s t net h w =
    let new : rank_in t net.0 ≡ length s.order.items + 1 = rw (w.ranks, get_or-set_same s.ranks.items net.0 (length s.order.items + 1) 0 h) refl in
    let other : (m : ℕ) → m ≢ net.0 → rank_in t m ≡ rank_in s m = λ m ne. rw (w.ranks, get_or-set_other s.ranks.items net.0 m (length s.order.items + 1) 0 ne) refl in
    record {
      new = new;
      other = other;
      more = λ m p. ⊎_elim (λ (y : m ≡ net.0). rw y (omega arith)) (λ (ne : m ≢ net.0). rw (other m ne) p) (cases_eq m net.0);
    }

has_finished : (columns : List (List NetId)) (s t : Sorting) (n : ℕ) → IsSorting columns s → Grows s t n
    → ((m : ℕ) → has_id (row columns n) m ≡ true → 0 < rank_in s m)
    → (l m : ℕ) → 0 < rank_in t l → has_id (row columns l) m ≡ true → 0 < rank_in t m
has_finished columns s t n h g all l m p e =
    ⊎_elim
    (λ (y : l ≡ n). g.more m (all m (rw (← y) e)))
    (λ (ne : l ≢ n). g.more m (h.has l m (rw (← g.other l ne) p) e))
    (cases_eq l n)

-- a net that has a rank isn't the one without
other_ranked : (s : Sorting) (n m : ℕ) → rank_in s n ≡ 0 → 0 < rank_in s m → m ≢ n
other_ranked s n m unranked ranked y = let z : rank_in s m ≡ 0 = rw y unranked in omega arith

falls_finished : (columns : List (List NetId)) (s t : Sorting) (n : ℕ) → IsSorting columns s → Grows s t n → rank_in s n ≡ 0
    → ((m : ℕ) → has_id (row columns n) m ≡ true → 0 < rank_in s m)
    → (l m : ℕ) → 0 < rank_in t l → has_id (row columns l) m ≡ true → rank_in t m < rank_in t l
falls_finished columns s t n h g unranked all l m p e =
    ⊎_elim
    (λ (y : l ≡ n).
    let q : 0 < rank_in s m = all m (rw (← y) e) in
    rw (y, g.other m (other_ranked s n m unranked q)) (omega (arith, g.new, h.small m)))
    (λ (ne : l ≢ n).
    let r : 0 < rank_in s l = rw (← g.other l ne) p in
    rw (g.other l ne, g.other m (other_ranked s n m unranked (h.has l m r e))) (h.falls l m r e))
    (cases_eq l n)

small_finished : (columns : List (List NetId)) (s t : Sorting) (n : ℕ) → IsSorting columns s → Grows s t n → length t.order.items ≡ length s.order.items + 1 → (m : ℕ) → rank_in t m ≤ length t.order.items
small_finished columns s t n h g l m =
    ⊎_elim (λ (y : m ≡ n). rw y (omega (arith, g.new))) (λ (ne : m ≢ n). omega (arith, g.other m ne, h.small m)) (cases_eq m n)

pushed_last : (xs : List NetId) (x : NetId) (k : ℕ) → length xs ≡ k → net_at (xs ++ x ∷ []) k ≡ x.0
pushed_last xs x k h =
    let none : NetId = record { 0 = 0 } in
    ap (λ (n : NetId). n.0) (get_or-append_right xs (x ∷ []) k k none h (omega arith) ∙ get_or_head x [] (k - k) none (omega arith))

pushed_before : (xs : List NetId) (x : NetId) (k : ℕ) → k < length xs → net_at (xs ++ x ∷ []) k ≡ net_at xs k
pushed_before xs x k h =
    let none : NetId = record { 0 = 0 } in
    ap (λ (n : NetId). n.0) (get_or_append_left xs (x ∷ []) none k h)

found_finished : (columns : List (List NetId)) (s t : Sorting) (net : NetId) → IsSorting columns s → Grows s t net.0 → (n k : ℕ) → rank_in t n ≡ k + 1 → net_at (s.order.items ++ net ∷ []) k ≡ n
found_finished columns s t net h g n k e =
    ⊎_elim
    (λ (y : n ≡ net.0).
    let f : rank_in t net.0 ≡ k + 1 = rw (← y) e in
    let i : length s.order.items ≡ k = omega (arith, g.new) in
    rw y (pushed_last s.order.items net k i))
    (λ (ne : n ≢ net.0).
    let f : rank_in s n ≡ k + 1 = rw (← g.other n ne) e in
    let i : k < length s.order.items = omega (arith, h.small n) in
    rw (pushed_before s.order.items net k i) (h.found n k f))
    (cases_eq n net.0)

stands_finished : (columns : List (List NetId)) (s t : Sorting) (net : NetId) → IsSorting columns s → Grows s t net.0 → rank_in s net.0 ≡ 0 → (k : ℕ) → k < length s.order.items + 1 → rank_in t (net_at (s.order.items ++ net ∷ []) k) ≡ k + 1
stands_finished columns s t net h g unranked k e =
    ⊎_elim
    (λ (l : k < length s.order.items).
    let at : rank_in s (net_at s.order.items k) ≡ k + 1 = h.stands k l in
    let apart : net_at s.order.items k ≢ net.0 = other_ranked s net.0 (net_at s.order.items k) unranked (omega arith) in
    rw (pushed_before s.order.items net k l, g.other (net_at s.order.items k) apart) at)
    (λ (r : length s.order.items ≤ k).
    let i : length s.order.items ≡ k = omega arith in
    rw (pushed_last s.order.items net k i) (omega (arith, g.new)))
    (cases_lt k (length s.order.items))

within_finished : (columns : List (List NetId)) (s : Sorting) (net : NetId) (k : ℕ) → IsSorting columns s → net.0 < length columns → k < length s.order.items + 1 → net_at (s.order.items ++ net ∷ []) k < length columns
within_finished columns s net k h inside e =
    ⊎_elim
    (λ (l : k < length s.order.items). rw (pushed_before s.order.items net k l) (h.within k l))
    (λ (r : length s.order.items ≤ k).
    let i : length s.order.items ≡ k = omega arith in
    rw (pushed_last s.order.items net k i) inside)
    (cases_lt k (length s.order.items))

still_finished : (columns : List (List NetId)) (s t : Sorting) (net : NetId) (i n : ℕ) → Grows s t net.0 → HasFinished s t net → i ≤ length s.order.items → IsPlaced columns s i n → IsPlaced columns t i n
still_finished columns s t net i n g w below p = record {
  waits = λ z.
      ⊎_elim
      (λ (y : n ≡ net.0). let f : rank_in t net.0 ≡ 0 = rw (← y) z in absurd (omega (arith, g.new)))
      (λ (ne : n ≢ net.0).
      let q : Waits columns s i n = p.waits (rw (← g.other n ne) z) in
      record {
        above = q.above;
        column = q.column;
        listed = rw w.waiting q.listed;
        later = λ r.
            ⊎_elim (λ (y : q.above ≡ net.0). rw y (omega (arith, g.new)))
            (λ (apart : q.above ≢ net.0). rw (g.other q.above apart) (q.later (rw (← g.other q.above apart) r)))
            (cases_eq q.above net.0);
      })
      (cases_eq n net.0);
}

looked_finished : (columns : List (List NetId)) (s t : Sorting) (net : NetId) → IsSorting columns s → net.0 < length columns → rank_in s net.0 ≡ 0
    → ((k : ℕ) → k < length (row columns net.0) → 0 < rank_in s (net_at (row columns net.0) k))
    → HasFinished s t net → HasLooked columns s t (net ∷ [])
looked_finished columns s t net h inside unranked ranked w =
    let in_ranks : net.0 < length s.ranks.items = omega (arith, h.ranks) in
    let g = grows s t net in_ranks w in
    let all : (m : ℕ) → has_id (row columns net.0) m ≡ true → 0 < rank_in s m = λ m e. let r = id_at (row columns net.0) m e in rw (← r.2) (ranked r.0 r.1) in
    let l : length t.order.items ≡ length s.order.items + 1 = rw (w.order, length-append s.order.items (net ∷ [])) refl in
    record {
      sorting = record {
        ranks = rw (w.ranks, length-set s.ranks.items net.0 (length s.order.items + 1)) h.ranks;
        passes = rw w.passed h.passes;
        lists = rw w.waiting h.lists;
        has = has_finished columns s t net.0 h g all;
        falls = falls_finished columns s t net.0 h g unranked all;
        small = small_finished columns s t net.0 h g l;
        found = rw w.order (found_finished columns s t net h g);
        stands = λ k e. rw w.order (stands_finished columns s t net h g unranked k (omega (arith, l)));
        within = λ k e. rw w.order (within_finished columns s net k h inside (omega (arith, l)));
        known = λ n k e. g.more (net_at (row columns n) k) (h.known n k (rw w.passed at e));
        nets = rw w.waiting h.nets;
      };
      longer = omega (arith, l);
      stays = λ i n below p. still_finished columns s t net i n g w below p;
      placed = λ i n _ e. rw (id_one n net e) (record { waits = λ z. absurd (omega (arith, g.new)) });
    }

-- what the code reads, and what it does with it
read_at : (xs : List ℕ) (n x : ℕ) → n < length xs → x ≡ get_or xs n x → get_or xs n 0 ≡ x
read_at xs n x h e = sym (e ∙ get_or_default_zero xs n x h)

pub net_read : (nets : List NetId) (k : ℕ) (x : NetId) → k < length nets → x ≡ get_or nets k x → net_at nets k ≡ x.0
net_read nets k x h e = let none : NetId = record { 0 = 0 } in ap (λ (n : NetId). n.0) (sym (e ∙ get_or_default nets k x none h))

pub columns_read : (columns : List (List NetId)) (net : ℕ) (x nets : List NetId) → net < length columns → x ≡ get_or columns net x → nets ≡ x → nets ≡ row columns net
columns_read columns net x nets h e f = f ∙ (e ∙ get_or_default columns net x [] h)

pub looked_then : (columns : List (List NetId)) (s t : Sorting) (net above : NetId) (place start : ℕ) (ranks : List ℕ) (nets : List NetId) → AllBelow columns → IsSorting columns s → net.0 < length columns
    → nets ≡ row columns net.0 → ranks ≡ s.ranks.items → start ≡ get_or s.passed.items net.0 start → place < length nets → net_at nets place ≡ above.0
    → ((k : ℕ) → start ≤ k → k < place → 0 < get_or ranks (net_at nets k) 0) → (place < length nets → get_or ranks (net_at nets place) 0 ≡ 0)
    → HasWaited s t net place above → HasLooked columns s t (net ∷ [])
looked_then columns s t net above place start ranks nets below h inside is same from here told before stop w =
    let none : NetId = record { 0 = 0 } in
    let read : get_or s.passed.items net.0 0 ≡ start = read_at s.passed.items net.0 start (omega (arith, h.passes)) from in
    let here' : place < length (row columns net.0) = rw (← is) here in
    let at : net_at (row columns net.0) place ≡ above.0 = rw (← is) told in
    looked_waiting columns s t net above place h inside
    (rw (← at) (below net.0 [] inside place none here'))
    (rw (← at) (has_id-at (row columns net.0) place none here'))
    (rw (← told, ← same) (stop here))
    (λ k i j. rw (← is, ← same) (before k (rw read at i) j))
    w

pub looked_else : (columns : List (List NetId)) (s t : Sorting) (net : NetId) (place start own : ℕ) (ranks : List ℕ) (nets : List NetId) → IsSorting columns s → net.0 < length columns → own ≡ get_or s.ranks.items net.0 own → own ≤ 0
    → nets ≡ row columns net.0 → ranks ≡ s.ranks.items → start ≡ get_or s.passed.items net.0 start → length nets ≤ place
    → ((k : ℕ) → start ≤ k → k < place → 0 < get_or ranks (net_at nets k) 0)
    → HasFinished s t net → HasLooked columns s t (net ∷ [])
looked_else columns s t net place start own ranks nets h inside known unranked is same from all before w =
    let rank : rank_in s net.0 ≡ own = read_at s.ranks.items net.0 own (omega (arith, h.ranks)) known in
    let read : get_or s.passed.items net.0 0 ≡ start = read_at s.passed.items net.0 start (omega (arith, h.passes)) from in
    looked_finished columns s t net h inside (omega arith)
    (λ k j.
    let j' : k < length nets = rw is j in
    ⊎_elim (λ (l : k < start). h.known net.0 k (rw read l)) (λ (r : start ≤ k). rw (← is, ← same) (before k r (omega arith))) (cases_lt k start))
    w

-- nets looked at one behind the other
looked_more : (columns : List (List NetId)) (s t u : Sorting) (xs ys : List NetId) → HasLooked columns s t xs → HasLooked columns t u ys → HasLooked columns s u (xs ++ ys)
looked_more columns s t u xs ys f g = record {
  sorting = g.sorting;
  longer = omega (arith, f.longer, g.longer);
  stays = λ i n below p. g.stays i n (omega (arith, f.longer)) (f.stays i n below p);
  placed = λ i n below e.
      let further : i ≤ length t.order.items = omega (arith, f.longer) in
      ⊎_elim (λ (x : has_id xs n ≡ true). g.stays i n further (f.placed i n below x)) (λ (y : has_id ys n ≡ true). g.placed i n further y)
      (or_cases (has_id xs n) (has_id ys n) (rw (has_id-append xs ys n) at e));
}

pub looked_next : (columns : List (List NetId)) (s t u : Sorting) (nets : List NetId) (k : ℕ) (net : NetId) → k < length nets → get_or nets k (record { 0 = 0 }) ≡ net
    → HasLooked columns s t (take k nets) → HasLooked columns t u (net ∷ []) → HasLooked columns s u (take (k + 1) nets)
looked_next columns s t u nets k net inside e f g =
    rw (take_more nets k (record { 0 = 0 }) inside, e) (looked_more columns s t u (take k nets) (net ∷ []) f g)

pub placed_next : (columns : List (List NetId)) (s t : Sorting) (net : NetId) → ArePlaced columns s 0 net.0 → HasLooked columns s t (net ∷ []) → ArePlaced columns t 0 (net.0 + 1)
placed_next columns s t net p f = record {
  sorting = f.sorting;
  inside = omega arith;
  placed = λ n e.
      ⊎_elim (λ (y : n ≡ net.0). rw y (f.placed 0 net.0 (omega arith) (one_id net))) (λ (ne : n ≢ net.0). f.stays 0 n (omega arith) (p.placed n (omega arith))) (cases_eq n net.0);
}

-- the next net of the order
pub waiters_below : (columns : List (List NetId)) (s : Sorting) (n : ℕ) → IsSorting columns s → All (λ (m : NetId). m.0 < length columns) (waiters s n)
waiters_below columns s n h = λ k d e. h.nets n (get_or (waiters s n) k d).0 (has_id-at (waiters s n) k d e)

still_released : (columns : List (List NetId)) (s t : Sorting) (net : NetId) (place n : ℕ) → IsSorting columns s → net_at s.order.items place ≡ net.0 → HasReleased s t net
    → has_id (waiters s net.0) n ≡ false → IsPlaced columns s place n → IsPlaced columns t (place + 1) n
still_released columns s t net place n h e w out p = record {
  waits = λ z.
      let q : Waits columns s place n = p.waits (rw (← w.ranks) z) in
      let apart : q.above ≢ net.0 = λ y. let f : has_id (waiters s net.0) n ≡ true = rw (← y) q.listed in cc in
      record {
        above = q.above;
        column = q.column;
        listed = rw (w.waiting, get_or-set_other s.waiting net.0 q.above [] [] apart) q.listed;
        later = λ r.
            let r' : 0 < rank_in s q.above = rw (← w.ranks) r in
            let least : place < rank_in s q.above = q.later r' in
            rw w.ranks
            (⊎_elim (λ (y : rank_in s q.above ≡ place + 1). absurd (apart (let f = h.found q.above place y in cc))) (λ (ne : rank_in s q.above ≢ place + 1). omega arith)
            (cases_eq (rank_in s q.above) (place + 1)));
      };
}

-- one more net of the order is done with
pub settled : (columns : List (List NetId)) (s t u : Sorting) (net : NetId) (place : ℕ) → ArePlaced columns s place (length columns) → place < length s.order.items → net_at s.order.items place ≡ net.0
    → HasReleased s t net → HasLooked columns t u (waiters s net.0) → ArePlaced columns u (place + 1) (length columns)
settled columns s t u net place p inside e w f =
    let l : length t.order.items ≡ length s.order.items = ap length w.order in
    let further : place + 1 ≤ length t.order.items = omega arith in
    record {
      sorting = f.sorting;
      inside = omega (arith, f.longer);
      placed = λ n here.
          ⊎_elim
          (λ (y : has_id (waiters s net.0) n ≡ true). f.placed (place + 1) n further y)
          (λ (out : has_id (waiters s net.0) n ≡ false). f.stays (place + 1) n further (still_released columns s t net place n p.sorting e w out (p.placed n here)))
          (cases_Bool (has_id (waiters s net.0) n));
    }
