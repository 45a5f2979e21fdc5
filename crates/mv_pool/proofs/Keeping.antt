-- What stays true of a pool's fields.
use Rattle.std.proofs.Common.{◌≡◌, ℕ, zero, suc, ◌+◌, ◌<◌, ◌≤◌, Bool, cond, List, [], ◌∷◌, Option, None, Some, length, take, min, is_none, is_some, refl, sym, ap, ◌∙◌, inl, inr, arith}
use Rattle.std.specs.Cmp.{IsEquivalence}
use Rattle.std.proofs.lemmas.Bool.{cases_lt, cases_order}
use Rattle.std.proofs.lemmas.List.{get_or-take}
use Rattle.indexmap.specs.IndexMap.{IndexMap, get, index_map_len, spare, Updates}
use Rattle.mv_pool.specs.Places.{item_at, stands, place_of, least_free, held_in, with_item, AreDistinct}
use Rattle.mv_pool.specs.Kept.{IsKept}
use Rattle.std.proofs.lemmas.List.Sums.{count_by_more_yes, count_by_more_no, sum_by-take-le}
use Rattle.mv_pool.proofs.Positions.{passes_within}
use Rattle.mv_pool.proofs.Placing.{free_there, held_below, least-ge, item_at-with, item_at-with_other, held_in-with, least-le-held, length-with}
use Rattle.mv_pool.proofs.Finding.{Gains, Loses, found_each, new_there, position_same, AreDistinct-gains, AreDistinct-loses}

module _ {T : Type 0} where
  -- the least free place gains an item
  pub Gains-with : (ps : List (Option T)) (x : T) → Gains ps (with_item ps x) (least_free ps) x
  Gains-with ps x = record { there = item_at-with ps x; free = free_there ps; others = λ k. item_at-with_other ps x k }

  -- the least free place moves on
  pub least-with : (ps : List (Option T)) (x : T) → least_free ps + 1 ≤ least_free (with_item ps x)
  least-with ps x = least-ge (with_item ps x) (least_free ps + 1) (λ k h. elim (cases_order k (least_free ps)) [
    | inl same ↦ rw same (ap is_none (item_at-with ps x))
    | inr apart ↦ ap is_none (item_at-with_other ps x k (elim apart [ inl l ↦ (λ same. absurd (omega (arith, same))) | inr m ↦ absurd (omega arith) ])) ∙ held_below ps k (elim apart [ inl l ↦ l | inr m ↦ absurd (omega arith) ])
  ])

  -- the first places are as before
  pub item_at-take : (ps : List (Option T)) (m n : ℕ) → n < m → item_at (take m ps) n ≡ item_at ps n
  item_at-take ps m n h = get_or-take m ps n None h

  -- and none is behind them
  pub item_at-take_past : (ps : List (Option T)) (m n : ℕ) → m ≤ n → item_at (take m ps) n ≡ None
  item_at-take_past ps zero n h = refl
  item_at-take_past [] (suc m) n h = refl
  item_at-take_past (p ∷ ps) (suc m) zero h = absurd (omega arith)
  item_at-take_past (p ∷ ps) (suc m) (suc n) h = item_at-take_past ps m n (omega arith)

  -- a cut list has no more than before
  pub Loses-take : (ps : List (Option T)) (m : ℕ) → Loses ps (take m ps)
  Loses-take ps m = record { each = λ k. elim (cases_lt k m) [ inl less ↦ inl (item_at-take ps m k less) | inr more ↦ inr (item_at-take_past ps m k more) ] }

  -- a place more gains its item
  pub Gains-take : (ps : List (Option T)) (n : ℕ) (x : T) → item_at ps n ≡ Some x → Gains (take n ps) (take (n + 1) ps) n x
  Gains-take ps n x e = record {
    there = item_at-take ps (n + 1) n (omega arith) ∙ e;
    free = item_at-take_past ps n n (omega arith);
    others = λ k apart. elim (cases_order k n) [
      | inl same ↦ absurd (apart same)
      | inr less ↦ elim less [
        | inl l ↦ item_at-take ps (n + 1) k (omega arith) ∙ sym (item_at-take ps n k l)
        | inr l ↦ item_at-take_past ps (n + 1) k (omega arith) ∙ sym (item_at-take_past ps n k (omega arith))
      ]
    ];
  }

  -- one item more is held
  pub held_in-take : (ps : List (Option T)) (n : ℕ) (x : T) → item_at ps n ≡ Some x → held_in (take (n + 1) ps) ≡ held_in (take n ps) + 1
  held_in-take ps n x e = count_by_more_yes is_some ps n None (passes_within is_some refl ps n (ap is_some e)) (ap is_some e)

-- the pool with a new item at the least free place
pub IsKept-with : {T S : Type 0} (eq : T → T → Bool) → IsEquivalence eq → (m n : IndexMap T ℕ S) (ps qs : List (Option T)) (x : T) (at room after taken cap : ℕ)
    → IsKept eq m ps room taken cap → place_of eq x ps ≡ None → held_in ps < cap → at ≡ least_free ps → qs ≡ with_item ps x
    → Updates eq m n x (Some at) → index_map_len n ≡ index_map_len m + 1 → spare m ≤ spare n + 1 → room ≤ after
    → IsKept eq n qs after (at + 1) cap
IsKept-with eq laws m n ps qs x at room after taken cap kept new less here is updates longer used wider =
    rw (here, is) (record {
      found = λ q. updates.0 q ∙ ap (λ k. cond (eq x q) (Some k) (get eq m q)) here ∙ ap (cond (eq x q) (Some (least_free ps))) (kept.found q) ∙ sym (found_each eq laws ps (with_item ps x) (least_free ps) x q (Gains-with ps x) new);
      count = longer ∙ ap (λ k. k + 1) kept.count ∙ sym (held_in-with ps x);
      distinct = AreDistinct-gains eq laws ps (with_item ps x) (least_free ps) x (Gains-with ps x) new kept.distinct;
      least = least-with ps x;
      within = length-with ps x cap kept.within (let l = least-le-held ps in omega arith);
      spare = omega (arith, kept.spare);
      fits = omega (arith, kept.fits);
      small = kept.small;
    })

-- the pool with fewer items, which are numbered anew
pub IsKept-loses : {T S : Type 0} (eq : T → T → Bool) → IsEquivalence eq → (m n : IndexMap T ℕ S) (ps qs : List (Option T)) (room after taken below cap : ℕ)
    → IsKept eq m ps room taken cap → Loses ps qs → length qs ≤ cap → below ≤ least_free qs
    → ((q : T) → get eq n q ≡ place_of eq q qs) → index_map_len n ≡ held_in qs → index_map_len m + spare m ≤ index_map_len n + spare n → room ≤ after
    → IsKept eq n qs after below cap
IsKept-loses eq laws m n ps qs room after taken below cap kept loses short low found count wide wider = record {
  found = found;
  count = count;
  distinct = AreDistinct-loses eq laws ps qs loses kept.distinct;
  least = low;
  within = short;
  spare = omega (arith, kept.spare);
  fits = omega (arith, kept.fits);
  small = kept.small;
}

-- where no place below a number is free, none is in the first places
pub least-take : {T : Type 0} (ps : List (Option T)) (taken m : ℕ) → taken ≤ least_free ps → min taken m ≤ least_free (take m ps)
least-take ps taken m h = least-ge (take m ps) (min taken m) (λ k l. ap is_none (item_at-take ps m k (omega arith)) ∙ held_below ps k (omega arith))

-- the map numbers exactly these items, within the room
pub record AreNumbered {T S : Type 0} (eq : T → T → Bool) (m : IndexMap T ℕ S) (ps : List (Option T)) (room : ℕ) : Type 0 where
  pub found : (q : T) → get eq m q ≡ place_of eq q ps
  pub count : index_map_len m ≡ held_in ps
  pub within : room ≤ index_map_len m + spare m

module _ {T S : Type 0} (eq : T → T → Bool) (laws : IsEquivalence eq) where
  -- no items
  pub AreNumbered-none : (m : IndexMap T ℕ S) (room : ℕ) → m.entries ≡ [] → room ≤ spare m → AreNumbered eq m [] room
  AreNumbered-none m room empty h = record {
    found = λ q. rw empty;
    count = ap length empty;
    within = omega arith;
  }

  -- the item at the next place isn't numbered yet
  pub fresh_next : (m : IndexMap T ℕ S) (ps : List (Option T)) (n room : ℕ) (x : T) → AreDistinct eq ps → AreNumbered eq m (take n ps) room → item_at ps n ≡ Some x → get eq m x ≡ None
  fresh_next m ps n room x apart are e = are.found x ∙ new_there eq laws ps (take n ps) n x (Loses-take ps n) (λ k h. item_at-take_past ps n k h) e apart

  -- there is room for it
  pub room_next : (m : IndexMap T ℕ S) (ps : List (Option T)) (n room : ℕ) (x : T) → held_in ps ≤ room → AreNumbered eq m (take n ps) room → item_at ps n ≡ Some x → 0 < spare m
  room_next m ps n room x h are e =
      let more = held_in-take ps n x e in
      let all : held_in (take (n + 1) ps) ≤ held_in ps = sum_by-take-le (λ o. cond (is_some o) 1 0) ps (n + 1) in
      omega (arith, are.count, are.within)

  -- an item more is numbered
  pub AreNumbered-some : (m n : IndexMap T ℕ S) (ps : List (Option T)) (k room : ℕ) (x : T) → AreDistinct eq ps → AreNumbered eq m (take k ps) room → item_at ps k ≡ Some x
      → Updates eq m n x (Some k) → index_map_len n ≡ index_map_len m + 1 → spare m ≤ spare n + 1 → AreNumbered eq n (take (k + 1) ps) room
  AreNumbered-some m n ps k room x apart are e updates longer used =
      let new = sym (are.found x) ∙ fresh_next m ps k room x apart are e in
      record {
        found = λ q. updates.0 q ∙ ap (cond (eq x q) (Some k)) (are.found q) ∙ sym (found_each eq laws (take k ps) (take (k + 1) ps) k x q (Gains-take ps k x e) new);
        count = longer ∙ ap (λ j. j + 1) are.count ∙ sym (held_in-take ps k x e);
        within = omega (arith, are.within);
      }

  -- a free place more changes nothing
  pub AreNumbered-free : (m : IndexMap T ℕ S) (ps : List (Option T)) (k room : ℕ) → AreNumbered eq m (take k ps) room → k < length ps → item_at ps k ≡ None → AreNumbered eq m (take (k + 1) ps) room
  AreNumbered-free m ps k room are less e = record {
    found = λ q. are.found q ∙ sym (position_same (stands eq q) refl (take k ps) (take (k + 1) ps) (λ j. ap (stands eq q) (same j)));
    count = are.count ∙ sym (count_by_more_no is_some ps k None less (ap is_some e));
    within = are.within;
  }
    where
      same : (j : ℕ) → item_at (take (k + 1) ps) j ≡ item_at (take k ps) j
      same j = elim (cases_order j k) [
        | inl here ↦ rw here (item_at-take ps (k + 1) k (omega arith) ∙ e ∙ sym (item_at-take_past ps k k (omega arith)))
        | inr less ↦ elim less [
          | inl l ↦ item_at-take ps (k + 1) j (omega arith) ∙ sym (item_at-take ps k j l)
          | inr l ↦ item_at-take_past ps (k + 1) j (omega arith) ∙ sym (item_at-take_past ps k j (omega arith))
        ]
      ]
