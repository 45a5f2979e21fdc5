-- Lists of nets: what a sort leaves, what a push keeps, and that the members of an ascending one determine it.
use Rattle.std.proofs.Common.{◌≡◌, ◌∙◌, ℕ, ◌+◌, ◌<◌, ◌≤◌, Bool, true, false, ◌&&◌, ◌||◌, cond, nat_eq, nat_lt, List, [], ◌∷◌, ◌++◌, length, get_or, take, refl, sym, ap, subst, ⊎_elim, eq-eqb, eqb-true, arith, IsPermutation, nat_cmp, Ordering}
use Rattle.std.specs.declared.cmp.Ordering.TheVariants.{Less, Equal, Greater}
use Rattle.std.specs.Cmp.{IsTotalOrder, on_total, nat_cmp_total, unsigned_ties}
use Rattle.std.specs.List.{dedup, dedup_from}
use Rattle.std.specs.List.Sorted.{IsSorted, IsStrictlySortedBy}
use Rattle.std.specs.List.Retain.{IsFiltered, DiffersFromLast}
use Rattle.std.proofs.Math.Bool.{or-false}
use Rattle.std.proofs.lemmas.Bool.{cases_Bool, cases_order, cases_eq, or_cases, or_left, or_right, false≢true, and_from, and_parts, ltb-true, lt-ltb, le-ltb, ne_eqb}
use Rattle.std.proofs.lemmas.List.{take_more}
use Rattle.std.proofs.lemmas.List.Filters.{dedup_is}
use Rattle.std.proofs.lemmas.List.Folds.{list_any-append, list_any_at}
use Rattle.std.proofs.lemmas.List.Kept.{IsStrictlySortedBy-dedup}
use Rattle.std.proofs.lemmas.List.Sorted.{list_any-IsPermutation}
use Rattle.std.proofs.lemmas.Map.Keys.{sorted_head, sorted_tail}
use Rattle.mv_base.specs.declared.number.NetId.{NetId}
use Rattle.mv_graph.specs.Nets.{has_id, ids_ascend, IsAscending}

-- the order and the equality of numbers of nets
abbrev pub id_cmp : NetId → NetId → Ordering
id_cmp x y = nat_cmp x.0 y.0

abbrev pub id_eq : NetId → NetId → Bool
id_eq x y = nat_eq x.0 y.0

ids_total : IsTotalOrder id_cmp
ids_total = on_total (λ (n : NetId). n.0) nat_cmp_total

less_is : (b c : Bool) → cond b Less (cond c Equal Greater) ≡ Less → b ≡ true
less_is true c e = refl
less_is false true e = cc
less_is false false e = cc

-- strictly sorted numbers ascend
pub ascend-from_sorted : (ns : List NetId) → IsStrictlySortedBy id_cmp ns → ids_ascend ns ≡ true
ascend-from_sorted [] s = refl
ascend-from_sorted (n ∷ []) s = refl
ascend-from_sorted (n ∷ m ∷ ns) s =
    and_from (nat_lt n.0 m.0) (ids_ascend (m ∷ ns)) (less_is (nat_lt n.0 m.0) (nat_eq n.0 m.0) (sorted_head id_cmp n (m ∷ ns) s).0) (ascend-from_sorted (m ∷ ns) (sorted_tail id_cmp n (m ∷ ns) s))

-- ---- what a sort and a removal of repeats leave

twice : (p q a : Bool) → q ≡ p → (p || a) ≡ (p || (q || a))
twice true q a e = refl
twice false q a e = rw e refl

any-dedup_from : (n : ℕ) (k : NetId) (ns : List NetId) → has_id (dedup_from id_eq k ns) n ≡ (nat_eq k.0 n || has_id ns n)
any-dedup_from n k [] = refl
any-dedup_from n k (m ∷ ns) =
    ⊎_elim
    (λ (y : nat_eq m.0 k.0 ≡ true). rw y (any-dedup_from n k ns ∙ twice (nat_eq k.0 n) (nat_eq m.0 n) (has_id ns n) (ap (λ i. nat_eq i n) (eqb-true m.0 k.0 y))))
    (λ (f : nat_eq m.0 k.0 ≡ false). rw f (ap (λ b. nat_eq k.0 n || b) (any-dedup_from n m ns)))
    (cases_Bool (nat_eq m.0 k.0))

pub has_id-dedup : (ns : List NetId) (n : ℕ) → has_id (dedup id_eq ns) n ≡ has_id ns n
has_id-dedup [] n = refl
has_id-dedup (m ∷ ns) n = any-dedup_from n m ns

-- numbers that were sorted and of which repeats were taken away
pub ascending_kept : (ns sorted kept : List NetId) → IsPermutation ns sorted → IsSorted id_cmp sorted → IsFiltered (DiffersFromLast id_eq) [] sorted kept → IsAscending (has_id ns) kept
ascending_kept ns sorted kept p s f =
    let e = dedup_is id_eq sorted kept f in
    record {
      ascending = rw e (ascend-from_sorted _ (IsStrictlySortedBy-dedup ids_total (λ x y. unsigned_ties x.0 y.0) sorted s));
      members = λ n. rw e (has_id-dedup sorted n ∙ sym (list_any-IsPermutation (λ (m : NetId). nat_eq m.0 n) ns sorted p));
    }

-- ---- lists joined, and one net more

pub has_id-append : (ms ns : List NetId) (n : ℕ) → has_id (ms ++ ns) n ≡ (has_id ms n || has_id ns n)
has_id-append ms ns n = list_any-append (λ (m : NetId). nat_eq m.0 n) ms ns

pub has_id-more : (ns : List NetId) (i : ℕ) (x d : NetId) (m : ℕ) → i < length ns → x ≡ get_or ns i d → has_id (take (i + 1) ns) m ≡ (has_id (take i ns) m || nat_eq x.0 m)
has_id-more ns i x d m lt is =
    ap (λ l. has_id l m) (take_more ns i d lt) ∙ (has_id-append (take i ns) (get_or ns i d ∷ []) m ∙ ap (λ b. has_id (take i ns) m || b) (or-false (nat_eq (get_or ns i d).0 m) ∙ ap (λ (y : NetId). nat_eq y.0 m) (sym is)))

pub has_id-at : (ns : List NetId) (i : ℕ) (d : NetId) → i < length ns → has_id ns (get_or ns i d).0 ≡ true
has_id-at ns i d lt = list_any_at (λ (m : NetId). nat_eq m.0 (get_or ns i d).0) ns i d lt (eq-eqb (get_or ns i d).0 (get_or ns i d).0 refl)

-- ---- the same list under another test, and one number more

pub IsAscending-same : (s t : ℕ → Bool) (list : List NetId) → ((n : ℕ) → s n ≡ t n) → IsAscending s list → IsAscending t list
IsAscending-same s t list e a = record { ascending = a.ascending; members = λ n. a.members n ∙ e n }

pub IsAscending-none : (t : ℕ → Bool) → ((n : ℕ) → t n ≡ false) → IsAscending t []
IsAscending-none t none = record { ascending = refl; members = λ n. sym (none n) }

ascend-push : (ns : List NetId) (k : NetId) → ids_ascend ns ≡ true → ((m : ℕ) → has_id ns m ≡ true → m < k.0) → ids_ascend (ns ++ k ∷ []) ≡ true
ascend-push [] k up below = refl
ascend-push (n ∷ []) k up below =
    and_from (nat_lt n.0 k.0) true (lt-ltb n.0 k.0 (below n.0 (or_left (nat_eq n.0 n.0) false (eq-eqb n.0 n.0 refl)))) refl
ascend-push (n ∷ m ∷ ns) k up below =
    let p = and_parts (nat_lt n.0 m.0) (ids_ascend (m ∷ ns)) up in
    and_from (nat_lt n.0 m.0) (ids_ascend ((m ∷ ns) ++ k ∷ [])) p.0 (ascend-push (m ∷ ns) k p.1 (λ i h. below i (or_right (nat_eq n.0 i) (has_id (m ∷ ns) i) h)))

-- a test below k + 1 is the test below k, or at k
below_more : (t : ℕ → Bool) (k n : ℕ) → (nat_lt n (k + 1) && t n) ≡ ((nat_lt n k && t n) || (nat_eq k n && t k))
below_more t k n =
    ⊎_elim
    (λ (e : n ≡ k). rw (e, lt-ltb k (k + 1) (omega arith), le-ltb k k (omega arith), eq-eqb k k refl) refl)
    (⊎_elim
    (λ (l : n < k). rw (lt-ltb n (k + 1) (omega arith), lt-ltb n k l, ne_eqb k n (λ e. absurd (omega arith))) (sym (or-false (t n))))
    (λ (g : k < n). rw (le-ltb n (k + 1) (omega arith), le-ltb n k (omega arith), ne_eqb k n (λ e. absurd (omega arith))) refl))
    (cases_order n k)

below_is : (b c : Bool) (n k : ℕ) → (nat_lt n k && b) ≡ true → n < k
below_is b c n k e = ltb-true n k (and_parts (nat_lt n k) b e).0

-- one more number that passes goes to the end
pub IsAscending-push : (t : ℕ → Bool) (k : NetId) (list : List NetId) → IsAscending (λ n. nat_lt n k.0 && t n) list → t k.0 ≡ true → IsAscending (λ n. nat_lt n (k.0 + 1) && t n) (list ++ k ∷ [])
IsAscending-push t k list a yes_k = record {
  ascending = ascend-push list k a.ascending (λ m h. below_is (t m) true m k.0 (sym (a.members m) ∙ h));
  members = λ n. has_id-append list (k ∷ []) n ∙ (ap (λ b. b || (nat_eq k.0 n || false)) (a.members n) ∙ (rest (nat_lt n k.0 && t n) (nat_eq k.0 n) (t k.0) yes_k ∙ sym (below_more t k.0 n)));
}
  where
    rest : (b c d : Bool) → d ≡ true → (b || (c || false)) ≡ (b || (c && d))
    rest true c d e = refl
    rest false true d e = sym e
    rest false false d e = refl

-- one more number that does not pass stays out
pub IsAscending-skip : (t : ℕ → Bool) (k : ℕ) (list : List NetId) → IsAscending (λ n. nat_lt n k && t n) list → t k ≡ false → IsAscending (λ n. nat_lt n (k + 1) && t n) list
IsAscending-skip t k list a no_k = record {
  ascending = a.ascending;
  members = λ n. a.members n ∙ (rest (nat_lt n k && t n) (nat_eq k n) (t k) no_k ∙ sym (below_more t k n));
}
  where
    rest : (b c d : Bool) → d ≡ false → b ≡ (b || (c && d))
    rest true c d e = refl
    rest false true d e = sym e
    rest false false d e = refl

-- ---- the members determine the list

same_id : (m n : NetId) → m.0 ≡ n.0 → m ≡ n
same_id m n e = λ i. record { 0 = e i }

-- every number of an ascending list is above its first
pub above_first : (n : NetId) (ns : List NetId) (m : ℕ) → ids_ascend (n ∷ ns) ≡ true → has_id ns m ≡ true → n.0 < m
above_first n [] m up h = absurd (false≢true h)
above_first n (k ∷ ns) m up h =
    let p = and_parts (nat_lt n.0 k.0) (ids_ascend (k ∷ ns)) up in
    let low : n.0 < k.0 = ltb-true n.0 k.0 p.0 in
    ⊎_elim
    (λ (y : nat_eq k.0 m ≡ true). let e : k.0 ≡ m = eqb-true k.0 m y in omega arith)
    (λ (rest : has_id ns m ≡ true). let far : k.0 < m = above_first k ns m p.1 rest in omega arith)
    (or_cases (nat_eq k.0 m) (has_id ns m) h)

pub ascend_tail : (n : NetId) (ns : List NetId) → ids_ascend (n ∷ ns) ≡ true → ids_ascend ns ≡ true
ascend_tail n [] up = refl
ascend_tail n (m ∷ ns) up = (and_parts (nat_lt n.0 m.0) (ids_ascend (m ∷ ns)) up).1

first_has : (n : NetId) (ns : List NetId) → has_id (n ∷ ns) n.0 ≡ true
first_has n ns = or_left (nat_eq n.0 n.0) (has_id ns n.0) (eq-eqb n.0 n.0 refl)

-- the first of two ascending lists with the same members is no lower than the other's
first_low : (m n : NetId) (ms ns : List NetId) → ids_ascend (m ∷ ms) ≡ true → has_id (m ∷ ms) n.0 ≡ true → m.0 ≤ n.0
first_low m n ms ns up h =
    ⊎_elim
    (λ (y : nat_eq m.0 n.0 ≡ true). let e : m.0 ≡ n.0 = eqb-true m.0 n.0 y in omega arith)
    (λ (rest : has_id ms n.0 ≡ true). let far : m.0 < n.0 = above_first m ms n.0 up rest in omega arith)
    (or_cases (nat_eq m.0 n.0) (has_id ms n.0) h)

-- where a number is not the first, it is a member exactly if it is one of the rest
rest_has : (n : NetId) (ns : List NetId) (k : ℕ) → (n.0 ≡ k → ⊥) → has_id (n ∷ ns) k ≡ has_id ns k
rest_has n ns k ne = ap (λ b. b || has_id ns k) (ne_eqb n.0 k ne)

none_is : (ns : List NetId) (n : NetId) → ids_ascend (n ∷ ns) ≡ true → has_id ns n.0 ≡ false
none_is ns n up =
    ⊎_elim
    (λ (y : has_id ns n.0 ≡ true). let bad : n.0 < n.0 = above_first n ns n.0 up y in absurd (omega arith))
    (λ (f : has_id ns n.0 ≡ false). f)
    (cases_Bool (has_id ns n.0))

pub ascending_same : (ms ns : List NetId) → ids_ascend ms ≡ true → ids_ascend ns ≡ true → ((k : ℕ) → has_id ms k ≡ has_id ns k) → ms ≡ ns
ascending_same [] [] up vp same = refl
ascending_same [] (n ∷ ns) up vp same = absurd (false≢true (same n.0 ∙ first_has n ns))
ascending_same (m ∷ ms) [] up vp same = absurd (false≢true (sym (same m.0) ∙ first_has m ms))
ascending_same (m ∷ ms) (n ∷ ns) up vp same =
    let low : m.0 ≤ n.0 = first_low m n ms ns up (same n.0 ∙ first_has n ns) in
    let high : n.0 ≤ m.0 = first_low n m ns ms vp (sym (same m.0) ∙ first_has m ms) in
    let e : m.0 ≡ n.0 = omega arith in
    let rest : (k : ℕ) → has_id ms k ≡ has_id ns k = λ k.
    ⊎_elim
    (λ (y : m.0 ≡ k).
    let P : ℕ → Type 0 = λ j. has_id ms j ≡ has_id ns j in
    subst P y (none_is ms m up ∙ sym (ap (has_id ns) e ∙ none_is ns n vp)))
    (λ (f : m.0 ≡ k → ⊥). sym (rest_has m ms k f) ∙ (same k ∙ rest_has n ns k (λ g. f (e ∙ g))))
    (cases_eq m.0 k) in
    λ i. same_id m n e i ∷ ascending_same ms ns (ascend_tail m ms up) (ascend_tail n ns vp) rest i

-- at most one list is ascending with exactly these members
pub IsAscending-unique : (test : ℕ → Bool) (ms ns : List NetId) → IsAscending test ms → IsAscending test ns → ms ≡ ns
IsAscending-unique test ms ns a b = ascending_same ms ns a.ascending b.ascending (λ k. a.members k ∙ sym (b.members k))
