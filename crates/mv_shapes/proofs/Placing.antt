-- What a search among ascending nets finds.
use Rattle.std.proofs.Common.{◌≡◌, ℕ, zero, suc, All, ◌+◌, ◌<◌, ◌≤◌, Bool, true, false, cond, nat_eq, nat_lt, nat_cmp, is_lt, Less, Equal, Greater, List, [], ◌∷◌, length, get_or, map, ◌++◌, Err, sym, refl, ◌∙◌, ap, subst, arith, inl, inr, eqb-true}
use Rattle.std.specs.Cmp.{nat_cmp_total}
use Rattle.std.specs.List.Sorted.{IsBinarySearchResult, IsNonDecreasingBy, IsSortedBy}
use Rattle.std.specs.Ordering.{ordering_index}
use Rattle.std.proofs.lemmas.Bool.{cases_Bool, cases_lt, and_parts, or_cases, or_right, ltb-true, le-ltb, eq-eqb}
use Rattle.std.proofs.lemmas.List.Sorted.{searchable_from_sorted}
use Rattle.mv_base.specs.declared.number.NetId.{NetId}
use Rattle.mv_graph.specs.Nets.{has_id, ids_ascend, IsAscending}
use Rattle.mv_graph.proofs.Nets.{id_cmp}
use Rattle.mv_rows.specs.declared.column.Column.{Column}
use Rattle.mv_shapes.specs.Shape.{column_net, net_at}
use Rattle.mv_shapes.proofs.Spread.{rises, net-spread, low-spread}

-- ---- ascending nets are sorted

next_less : (ns : List NetId) (k : ℕ) (d : NetId) → ids_ascend ns ≡ true → k + 1 < length ns → (get_or ns k d).0 < (get_or ns (k + 1) d).0
next_less [] k d h l = absurd (omega (arith, l))
next_less (n ∷ []) k d h l = absurd (omega (arith, l))
next_less (n ∷ m ∷ ns) zero d h l = ltb-true n.0 m.0 (and_parts (nat_lt n.0 m.0) (ids_ascend (m ∷ ns)) h).0
next_less (n ∷ m ∷ ns) (suc k) d h l =
    let e : suc (k + 1) ≡ suc k + 1 = omega arith in
    let P : ℕ → Type 0 = λ j. (get_or (n ∷ m ∷ ns) (suc k) d).0 < (get_or (n ∷ m ∷ ns) j d).0 in
    subst P e (next_less (m ∷ ns) k d (and_parts (nat_lt n.0 m.0) (ids_ascend (m ∷ ns)) h).1 (omega (arith, l)))

not_less : (a b : ℕ) → b < a → is_lt (nat_cmp a b) ≡ false
not_less a b l = rw (le-ltb a b (omega (arith, l))) (split (nat_eq a b))
  where
    split : (e : Bool) → is_lt (cond e Equal Greater) ≡ false
    split true = refl
    split false = refl

ascend_sorted : (ns : List NetId) → ids_ascend ns ≡ true → IsSortedBy (λ (a b : NetId). is_lt (nat_cmp a.0 b.0)) ns
ascend_sorted ns h = λ k d low high. not_less (get_or ns (k + 1) d).0 (get_or ns k d).0 (next_less ns k d h high)

searchable : (ns : List NetId) (n : ℕ) → ids_ascend ns ≡ true → IsNonDecreasingBy (λ (y : NetId). ordering_index (nat_cmp y.0 n)) ns
searchable ns n h = searchable_from_sorted nat_cmp_total (λ (y : NetId). y.0) ns n (ascend_sorted ns h)

-- ---- a net that is among others has a place there

record HasPlace (ns : List NetId) (n : ℕ) : Type 0 where
  place : ℕ
  low : place < length ns
  is : (d : NetId) → (get_or ns place d).0 ≡ n

place_of_net : (ns : List NetId) (n : ℕ) → has_id ns n ≡ true → HasPlace ns n
place_of_net [] n h = cc
place_of_net (m ∷ ns) n h =
    elim (or_cases (nat_eq m.0 n) (has_id ns n) h) [
      | inl y ↦ record { place = 0; low = omega arith; is = λ d. eqb-true m.0 n y }
      | inr y ↦ let p = place_of_net ns n y in let l = p.low in record { place = suc p.place; low = omega (arith, l); is = p.is }
    ]

-- the nets of columns are among theirs and others
some_among : (cs : List Column) (more : List NetId) (k : ℕ) (d : Column) → k < length cs → has_id (map column_net cs ++ more) (get_or cs k d).net.0 ≡ true
some_among [] more k d l = absurd (omega (arith, l))
some_among (c ∷ cs) more zero d l = rw (eq-eqb c.net.0 c.net.0 refl) refl
some_among (c ∷ cs) more (suc k) d l =
    let n = (get_or cs k d).net.0 in
    or_right (nat_eq c.net.0 n) (has_id (map column_net cs ++ more) n) (some_among cs more k d (omega (arith, l)))

pub all_among : (cs : List Column) (mark : NetId) (ns : List NetId) → IsAscending (has_id (map column_net cs ++ mark ∷ [])) ns → All (λ (c : Column). has_id ns c.net.0 ≡ true) cs
all_among cs mark ns a = λ k d low. a.members (get_or cs k d).net.0 ∙ some_among cs (mark ∷ []) k d low

-- ---- the search

equal_is : (a b : ℕ) → nat_cmp a b ≡ Equal → a ≡ b
equal_is a b h =
    elim (cases_Bool (nat_lt a b)) [
      | inl y ↦ let no : Less ≡ Equal = rw y at h in cc
      | inr n ↦
          elim (cases_Bool (nat_eq a b)) [
            | inl z ↦ eqb-true a b z
            | inr z ↦ let no : Greater ≡ Equal = rw (n, z) at h in cc
          ]
    ]

-- a number compares as equal with itself alone
itself : (a b : ℕ) → a ≡ b → nat_cmp a b ≡ Equal
itself a b e = rw (le-ltb a b (omega (arith, e))) (rw (eq-eqb a b e) refl)

-- the place that a search answers
pub record IsFound (ns : List NetId) (n : NetId) (k : ℕ) : Type 0 where
  pub low : k < length ns
  pub is : net_at ns k ≡ n
  pub small : k ≤ n.0

pub found : (ns : List NetId) (n : NetId) (k : ℕ) → ids_ascend ns ≡ true → k < length ns → ((d : NetId) → id_cmp (get_or ns k d) n ≡ Equal) → IsFound ns n k
found ns n k up low equal =
    let e : (get_or ns k n).0 ≡ n.0 = equal_is (get_or ns k n).0 n.0 (equal n) in
    let is : net_at ns k ≡ n = sym (net-spread ns k n low) ∙ (λ i. record { 0 = e i }) in
    let s = low-spread ns k (rises ns up) in
    let f = ap (λ (m : NetId). m.0) is in
    record { low = low; is = is; small = omega (arith, s, f) }

-- a net that is there is found
pub never_missed : (ns : List NetId) (n : NetId) (k : ℕ) → ids_ascend ns ≡ true → has_id ns n.0 ≡ true
    → IsBinarySearchResult (λ (y : NetId). id_cmp y n) ns (Err k) → ⊥
never_missed ns n k up among missed =
    let p = place_of_net ns n.0 among in
    let equal = itself (get_or ns p.place n).0 n.0 (p.is n) in
    let parts = missed (searchable ns n.0 up) in
    elim (cases_lt p.place k) [
      | inl l ↦ let no : Less ≡ Equal = sym (parts.0 p.place n (omega arith) l) ∙ equal in cc
      | inr g ↦ let no : Greater ≡ Equal = sym (parts.1 p.place n g p.low) ∙ equal in cc
    ]
