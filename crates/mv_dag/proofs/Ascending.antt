-- Ascending lists: cut at a place, joined, with a net more or less.
use Rattle.std.proofs.Common.{◌≡◌, ◌∙◌, ℕ, zero, suc, ◌<◌, Bool, true, false, ◌&&◌, ◌||◌, not, nat_eq, nat_lt, List, [], ◌∷◌, ◌++◌, take, drop, Some, refl, sym, ap, ⊎_elim, eq-eqb, eqb-true, arith}
use Rattle.std.specs.List.{slice_get, insert, remove}
use Rattle.std.proofs.Math.Bool.{or-false}
use Rattle.std.proofs.lemmas.Bool.{cases_Bool, or_cases, or_left, or_right, and_from, false≢true, lt-ltb}
use Rattle.std.proofs.lemmas.List.{take-append-drop}
use Rattle.mv_base.specs.declared.number.NetId.{NetId}
use Rattle.mv_graph.specs.Nets.{has_id, ids_ascend, IsAscending}
use Rattle.mv_graph.proofs.Nets.{above_first, ascend_tail, has_id-append}
use Rattle.mv_dag.specs.Readers.{IsGap}

-- ---- cut and joined

-- a number below all of an ascending list may come first
pub ascend-cons : (n : NetId) (ns : List NetId) → ids_ascend ns ≡ true → ((m : ℕ) → has_id ns m ≡ true → n.0 < m) → ids_ascend (n ∷ ns) ≡ true
ascend-cons n [] up low = refl
ascend-cons n (m ∷ ns) up low =
    and_from (nat_lt n.0 m.0) (ids_ascend (m ∷ ns)) (lt-ltb n.0 m.0 (low m.0 (or_left (nat_eq m.0 m.0) (has_id ns m.0) (eq-eqb m.0 m.0 refl)))) up

-- two ascending lists of which the one lies below the other
pub record AreApart (xs ys : List NetId) : Type 0 where
  pub first : ids_ascend xs ≡ true
  pub second : ids_ascend ys ≡ true
  pub apart : (i j : ℕ) → has_id xs i ≡ true → has_id ys j ≡ true → i < j

pub ascend-join : (xs ys : List NetId) → AreApart xs ys → ids_ascend (xs ++ ys) ≡ true
ascend-join [] ys a = a.second
ascend-join (x ∷ xs) ys a =
    ascend-cons x (xs ++ ys)
    (ascend-join xs ys (record { first = ascend_tail x xs a.first; second = a.second; apart = λ i j h k. a.apart i j (or_right (nat_eq x.0 i) (has_id xs i) h) k }))
    (λ m h.
    ⊎_elim
    (λ (y : has_id xs m ≡ true). above_first x xs m a.first y)
    (λ (y : has_id ys m ≡ true). a.apart x.0 m (or_left (nat_eq x.0 x.0) (has_id xs x.0) (eq-eqb x.0 x.0 refl)) y)
    (or_cases (has_id xs m) (has_id ys m) (sym (has_id-append xs ys m) ∙ h)))

pub ascend-cut : (xs ys : List NetId) → ids_ascend (xs ++ ys) ≡ true → AreApart xs ys
ascend-cut [] ys up = record { first = refl; second = up; apart = λ i j h k. absurd (false≢true h) }
ascend-cut (x ∷ xs) ys up =
    let rest = ascend-cut xs ys (ascend_tail x (xs ++ ys) up) in
    let far : (m : ℕ) → (has_id xs m || has_id ys m) ≡ true → x.0 < m = λ m h. above_first x (xs ++ ys) m up (has_id-append xs ys m ∙ h) in
    record {
      first = ascend-cons x xs rest.first (λ m h. far m (or_left (has_id xs m) (has_id ys m) h));
      second = rest.second;
      apart = λ i j h k.
          ⊎_elim
          (λ (y : nat_eq x.0 i ≡ true).
          let e : x.0 ≡ i = eqb-true x.0 i y in
          let low : x.0 < j = far j (or_right (has_id xs j) (has_id ys j) k) in
          omega arith)
          (λ (y : has_id xs i ≡ true). rest.apart i j y k)
          (or_cases (nat_eq x.0 i) (has_id xs i) h);
    }

-- an ascending list cut at a place
pub ascend-cut_at : (ns : List NetId) (k : ℕ) → ids_ascend ns ≡ true → AreApart (take k ns) (drop k ns)
ascend-cut_at ns k up = ascend-cut (take k ns) (drop k ns) (ap ids_ascend (take-append-drop k ns) ∙ up)

-- the list at a place
pub cut_out : (ns : List NetId) (place : ℕ) (n : NetId) → slice_get ns place ≡ Some n → ns ≡ take place ns ++ n ∷ drop (suc place) ns
cut_out [] place n at = cc
cut_out (m ∷ ns) zero n at = let e : m ≡ n = cc in ap (λ k. k ∷ ns) e
cut_out (m ∷ ns) (suc place) n at = ap (λ l. m ∷ l) (cut_out ns place n at)

-- ---- a net more

pub ascending-put : (ns new : List NetId) (place : ℕ) (n : NetId) → ids_ascend ns ≡ true → IsGap ns place n.0 → new ≡ insert ns place n → IsAscending (λ m. has_id ns m || nat_eq n.0 m) new
ascending-put ns new place n up gap e =
    let front = take place ns in
    let back = drop place ns in
    let cut = ascend-cut_at ns place up in
    record {
      ascending =
          ap ids_ascend e ∙ ascend-join front (n ∷ back)
          (record {
            first = cut.first;
            second = ascend-cons n back cut.second gap.behind;
            apart = λ i j h k.
                let low : i < n.0 = gap.before i h in
                ⊎_elim
                (λ (y : nat_eq n.0 j ≡ true). let same : n.0 ≡ j = eqb-true n.0 j y in omega arith)
                (λ (y : has_id back j ≡ true). cut.apart i j h y)
                (or_cases (nat_eq n.0 j) (has_id back j) k);
          });
      members = λ m.
          ap (λ l. has_id l m) e ∙ (has_id-append front (n ∷ back) m ∙ (turn (has_id front m) (nat_eq n.0 m) (has_id back m) ∙ ap (λ b. b || nat_eq n.0 m) (sym (has_id-append front back m) ∙ ap (λ l. has_id l m) (take-append-drop place ns))));
    }
  where
    turn : (a b c : Bool) → (a || (b || c)) ≡ ((a || c) || b)
    turn true b c = refl
    turn false true true = refl
    turn false true false = refl
    turn false false true = refl
    turn false false false = refl

-- one that stands there already
pub ascending-there : (ns : List NetId) (place : ℕ) (n : NetId) → ids_ascend ns ≡ true → slice_get ns place ≡ Some n → IsAscending (λ m. has_id ns m || nat_eq n.0 m) ns
ascending-there ns place n up at = record { ascending = up; members = λ m. same m }
  where
    stands : has_id ns n.0 ≡ true
    stands =
        let c = cut_out ns place n at in
        ap (λ l. has_id l n.0) c ∙ (has_id-append (take place ns) (n ∷ drop (suc place) ns) n.0 ∙ or_right (has_id (take place ns) n.0) _ (or_left (nat_eq n.0 n.0) _ (eq-eqb n.0 n.0 refl)))

    same : (m : ℕ) → has_id ns m ≡ (has_id ns m || nat_eq n.0 m)
    same m =
        ⊎_elim
        (λ (y : nat_eq n.0 m ≡ true).
        let has : has_id ns m ≡ true = ap (has_id ns) (sym (eqb-true n.0 m y)) ∙ stands in
        has ∙ sym (or_left (has_id ns m) (nat_eq n.0 m) has))
        (λ (f : nat_eq n.0 m ≡ false). sym (or-false (has_id ns m)) ∙ ap (λ b. has_id ns m || b) (sym f))
        (cases_Bool (nat_eq n.0 m))

-- ---- a net less

pub ascending-take : (ns new : List NetId) (place : ℕ) (n : NetId) → ids_ascend ns ≡ true → slice_get ns place ≡ Some n → new ≡ remove ns place → IsAscending (λ m. has_id ns m && not (nat_eq n.0 m)) new
ascending-take ns new place n up at e =
    let front = take place ns in
    let back = drop (suc place) ns in
    let is = cut_out ns place n at in
    let cut = ascend-cut front (n ∷ back) (ap ids_ascend (sym is) ∙ up) in
    record {
      ascending =
          ap ids_ascend e ∙ ascend-join front back
          (record {
            first = cut.first;
            second = ascend_tail n back cut.second;
            apart = λ i j h k. cut.apart i j h (or_right (nat_eq n.0 j) (has_id back j) k);
          });
      members = λ m.
          ap (λ l. has_id l m) e ∙ (has_id-append front back m ∙ (left m cut ∙ ap (λ b. b && not (nat_eq n.0 m)) (sym (has_id-append front (n ∷ back) m) ∙ ap (λ l. has_id l m) (sym is))));
    }
  where
    gone : (b c : Bool) → (b ≡ true → ⊥) → (c ≡ true → ⊥) → (b || c) ≡ ((b || (true || c)) && false)
    gone true c f g = absurd (f refl)
    gone false true f g = absurd (g refl)
    gone false false f g = refl

    stays : (b c : Bool) → (b || c) ≡ ((b || (false || c)) && true)
    stays true c = refl
    stays false true = refl
    stays false false = refl

    left : (m : ℕ) → AreApart (take place ns) (n ∷ drop (suc place) ns)
        → (has_id (take place ns) m || has_id (drop (suc place) ns) m) ≡ ((has_id (take place ns) m || (nat_eq n.0 m || has_id (drop (suc place) ns) m)) && not (nat_eq n.0 m))
    left m cut =
        let front = take place ns in
        let back = drop (suc place) ns in
        ⊎_elim
        (λ (y : nat_eq n.0 m ≡ true).
        let e : n.0 ≡ m = eqb-true n.0 m y in
        let first : has_id (n ∷ back) n.0 ≡ true = or_left (nat_eq n.0 n.0) (has_id back n.0) (eq-eqb n.0 n.0 refl) in
        rw y
        (gone (has_id front m) (has_id back m)
        (λ h. let low : m < n.0 = cut.apart m n.0 h first in absurd (omega arith))
        (λ h. let low : n.0 < m = above_first n back m cut.second h in absurd (omega arith))))
        (λ (f : nat_eq n.0 m ≡ false). rw f (stays (has_id front m) (has_id back m)))
        (cases_Bool (nat_eq n.0 m))

-- one that doesn't stand there
pub ascending-out : (ns : List NetId) (place : ℕ) (n : NetId) → ids_ascend ns ≡ true → IsGap ns place n.0 → IsAscending (λ m. has_id ns m && not (nat_eq n.0 m)) ns
ascending-out ns place n up gap = record { ascending = up; members = same }
  where
    out : has_id ns n.0 ≡ true → ⊥
    out h =
        ⊎_elim
        (λ (y : has_id (take place ns) n.0 ≡ true). let low = gap.before n.0 y in absurd (omega arith))
        (λ (y : has_id (drop place ns) n.0 ≡ true). let low = gap.behind n.0 y in absurd (omega arith))
        (or_cases (has_id (take place ns) n.0) (has_id (drop place ns) n.0) (sym (has_id-append (take place ns) (drop place ns) n.0) ∙ (ap (λ l. has_id l n.0) (take-append-drop place ns) ∙ h)))

    kept : (b : Bool) → b ≡ (b && true)
    kept true = refl
    kept false = refl

    none : (b : Bool) → (b ≡ true → ⊥) → b ≡ (b && false)
    none true f = absurd (f refl)
    none false f = refl

    same : (m : ℕ) → has_id ns m ≡ (has_id ns m && not (nat_eq n.0 m))
    same m =
        ⊎_elim
        (λ (y : nat_eq n.0 m ≡ true). rw y (none (has_id ns m) (λ h. out (ap (has_id ns) (eqb-true n.0 m y) ∙ h))))
        (λ (f : nat_eq n.0 m ≡ false). rw f (kept (has_id ns m)))
        (cases_Bool (nat_eq n.0 m))
