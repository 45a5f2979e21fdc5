-- A set cuts each class in two, in one pass: each value gets the number of the first value of its half.
use Rattle.std.proofs.Common.{◌≡◌, ◌∙◌, ◌⊎◌, ℕ, ◌+◌, ◌*◌, ◌<◌, ◌≤◌, Bool, true, false, ◌&&◌, ◌||◌, not, nat_eq, List, [], ◌∷◌, ◌++◌, Option, Some, None, unwrap_or, length, get_or, set, replicate, refl, sym, ap, subst, arith, ⊎_elim, eqb-true, eq-eqb}
use Rattle.std.proofs.lemmas.Bool.{cases_eq, cases_lt, false≢true, and_right, ne_eqb}
use Rattle.std.proofs.lemmas.List.{get_or-replicate, length-replicate, length-set, length-append, get_or-set_same, get_or-set_other, get_or_append_left, get_or_past, get_or_default}
use Rattle.std.proofs.Math.Seq.{get_or-append_seam}
use Rattle.std.proofs.lemmas.Option.{same_Some, none-some}
use Rattle.mv_base.specs.Set.{has}
use Rattle.mv_merging.specs.Verdicts.{splits}
use Rattle.mv_alike.specs.Classes.{same, half_of, AreNumbered, AreRefined}

-- ---- halves

-- where two tests follow from each other they are one
same_test : (p q : Bool) → (p ≡ true → q ≡ true) → (q ≡ true → p ≡ true) → p ≡ q
same_test true q f g = sym (f refl)
same_test false true f g = g refl
same_test false false f g = refl

-- two halves are one where the classes are one, and the values on one side
halves_same : (a b : ℕ) (x y : Bool) → nat_eq (half_of a x) (half_of b y) ≡ (nat_eq a b && not ((x && not y) || (not x && y)))
halves_same a b true true =
    same_test (nat_eq (2 * a + 1) (2 * b + 1)) (nat_eq a b && true)
    (λ h. let e = eqb-true (2 * a + 1) (2 * b + 1) h in let d : a ≡ b = omega (arith, e) in rw (eq-eqb a b d) refl)
    (λ h. let e = eqb-true a b (left (nat_eq a b) h) in eq-eqb (2 * a + 1) (2 * b + 1) (omega (arith, e)))
  where
    left : (t : Bool) → (t && true) ≡ true → t ≡ true
    left true h = refl
    left false h = h
halves_same a b false false =
    same_test (nat_eq (2 * a + 0) (2 * b + 0)) (nat_eq a b && true)
    (λ h. let e = eqb-true (2 * a + 0) (2 * b + 0) h in let d : a ≡ b = omega (arith, e) in rw (eq-eqb a b d) refl)
    (λ h. let e = eqb-true a b (left (nat_eq a b) h) in eq-eqb (2 * a + 0) (2 * b + 0) (omega (arith, e)))
  where
    left : (t : Bool) → (t && true) ≡ true → t ≡ true
    left true h = refl
    left false h = h
halves_same a b true false = ne_eqb (2 * a + 1) (2 * b + 0) (λ e. omega (arith, e)) ∙ sym (and_right (nat_eq a b) false refl)
halves_same a b false true = ne_eqb (2 * a + 0) (2 * b + 1) (λ e. omega (arith, e)) ∙ sym (and_right (nat_eq a b) false refl)

pub half_low : (a k : ℕ) (x : Bool) → a < k → half_of a x < 2 * k
half_low a k true lt = omega (arith, lt)
half_low a k false lt = omega (arith, lt)

-- the half in which a value lies
abbrev pub half : List ℕ → ℕ → ℕ → ℕ
half classes s v = half_of (get_or classes v 0) (has s v)

pub half_within : (classes : List ℕ) (s i : ℕ) → i < length classes → AreNumbered classes → half classes s i < 2 * length classes
half_within classes s i lt numbered = half_low (get_or classes i 0) (length classes) (has s i) (let l = numbered.least i lt in omega (arith, l, lt))

-- ---- one pass

-- the values below i have their new numbers, and each half that one of them lies in has its first
pub record AreFirsts (classes : List ℕ) (s i : ℕ) (firsts : List (Option ℕ)) (new : List ℕ) : Type 0 where
  pub within : i ≤ length classes
  pub places : length firsts ≡ 2 * length classes
  pub long : length new ≡ i
  pub found : (u : ℕ) → u < i → get_or firsts (half classes s u) None ≡ Some (get_or new u 0)
  pub least : (u : ℕ) → u < i → get_or new u 0 ≤ u
  pub from : (h u : ℕ) → get_or firsts h None ≡ Some u → (u < i) × (half classes s u ≡ h)

-- what no number is like is none, as a copy of none
pub none_alone : (R : Option ℕ → Type 0) → ((x : ℕ) → R (Some x) → ⊥) → (o : Option ℕ) → R o → o ≡ None
none_alone R other None r = refl
none_alone R other (Some x) r = absurd (other x r)

pub firsts_begin : (classes : List ℕ) (s : ℕ) (firsts : List (Option ℕ)) → firsts ≡ replicate (2 * length classes) None → AreFirsts classes s 0 firsts []
firsts_begin classes s firsts e = record {
  within = omega arith;
  places = ap length e ∙ length-replicate (2 * length classes) None;
  long = refl;
  found = λ u lt. absurd (omega (arith, lt));
  least = λ u lt. absurd (omega (arith, lt));
  from = λ h u is. absurd (none-some u (sym (none_at h (2 * length classes)) ∙ (ap (λ l. get_or l h None) (sym e) ∙ is)));
}
  where
    none_at : (h k : ℕ) → get_or (replicate {A = Option ℕ} k None) h None ≡ None
    none_at h k =
        ⊎_elim
        (λ (lt : h < k). get_or-replicate k h None None lt)
        (λ (le : k ≤ h). get_or_past (replicate k None) h None (rw (length-replicate {A = Option ℕ} k None) le))
        (cases_lt h k)

-- what is chosen for the value i: the first of its half, or itself where there is none
record IsChosen (classes : List ℕ) (s i : ℕ) (firsts : List (Option ℕ)) (first : ℕ) : Type 0 where
  low : first ≤ i
  half_is : half classes s first ≡ half classes s i
  kept : (x : ℕ) → get_or firsts (half classes s i) None ≡ Some x → first ≡ x

chosen : (classes : List ℕ) (s i : ℕ) (firsts : List (Option ℕ)) (new : List ℕ) (first : ℕ) → AreFirsts classes s i firsts new
    → first ≡ unwrap_or (get_or firsts (half classes s i) None) i → IsChosen classes s i firsts first
chosen classes s i firsts new first a e = by (get_or firsts (half classes s i) None) refl
  where
    by : (o : Option ℕ) → get_or firsts (half classes s i) None ≡ o → IsChosen classes s i firsts first
    by None is =
        let own : first ≡ i = e ∙ ap (λ o. unwrap_or o i) is in
        record { low = omega (arith, own); half_is = ap (half classes s) own; kept = λ x h. absurd (none-some x (sym is ∙ h)) }
    by (Some x) is =
        let own : first ≡ x = e ∙ ap (λ o. unwrap_or o i) is in
        let f = a.from (half classes s i) x is in
        record {
          low = (let l = f.0 in omega (arith, own, l));
          half_is = ap (half classes s) own ∙ f.1;
          kept = λ y h. own ∙ same_Some x y (sym is ∙ h);
        }

pub firsts_more : (classes : List ℕ) (s i : ℕ) (firsts : List (Option ℕ)) (new : List ℕ) (first : ℕ) → i < length classes → AreNumbered classes
    → first ≡ unwrap_or (get_or firsts (half classes s i) None) i → AreFirsts classes s i firsts new
    → AreFirsts classes s (i + 1) (set firsts (half classes s i) (Some first)) (new ++ first ∷ [])
firsts_more classes s i firsts new first lt numbered e a = record {
  within = omega (arith, lt);
  places = length-set firsts h (Some first) ∙ a.places;
  long = length-append new (first ∷ []) ∙ ap (λ k. k + 1) a.long;
  found = λ u below. found u below (cases_eq u i);
  least = λ u below. least u below (cases_eq u i);
  from = λ k u is. from k u is (cases_eq k h);
}
  where
    h : ℕ
    h = half classes s i

    c : IsChosen classes s i firsts first
    c = chosen classes s i firsts new first a e

    within : h < length firsts
    within = rw a.places (half_within classes s i lt numbered)

    at_end : get_or (new ++ first ∷ []) i 0 ≡ first
    at_end = ap (λ k. get_or (new ++ first ∷ []) k 0) (sym a.long) ∙ get_or-append_seam new first [] 0

    before : (u : ℕ) → u < i → get_or (new ++ first ∷ []) u 0 ≡ get_or new u 0
    before u low = get_or_append_left new (first ∷ []) 0 u (rw a.long low)

    below_i : (u : ℕ) → u < i + 1 → (u ≡ i → ⊥) → u < i
    below_i u below apart = ⊎_elim (λ (l : u < i). l) (λ (le : i ≤ u). absurd (apart (omega (arith, below, le)))) (cases_lt u i)

    found : (u : ℕ) → u < i + 1 → (u ≡ i) ⊎ (u ≡ i → ⊥) → get_or (set firsts h (Some first)) (half classes s u) None ≡ Some (get_or (new ++ first ∷ []) u 0)
    found u below cases =
        ⊎_elim
        (λ (is : u ≡ i).
        ap (λ v. get_or (set firsts h (Some first)) (half classes s v) None) is
        ∙ (get_or-set_same firsts h (Some first) None within ∙ ap Some (sym at_end ∙ ap (λ v. get_or (new ++ first ∷ []) v 0) (sym is))))
        (λ (apart : u ≡ i → ⊥).
        let low = below_i u below apart in
        let was = a.found u low in
        let value = sym (before u low) in
        ⊎_elim
        (λ (here : half classes s u ≡ h).
        ap (λ k. get_or (set firsts h (Some first)) k None) here
        ∙ (get_or-set_same firsts h (Some first) None within
        ∙ ap Some (c.kept (get_or new u 0) (ap (λ k. get_or firsts k None) (sym here) ∙ was) ∙ value)))
        (λ (other : half classes s u ≡ h → ⊥). get_or-set_other firsts h (half classes s u) (Some first) None other ∙ (was ∙ ap Some value))
        (cases_eq (half classes s u) h))
        cases

    least : (u : ℕ) → u < i + 1 → (u ≡ i) ⊎ (u ≡ i → ⊥) → get_or (new ++ first ∷ []) u 0 ≤ u
    least u below cases =
        ⊎_elim
        (λ (is : u ≡ i). subst (λ v. get_or (new ++ first ∷ []) v 0 ≤ v) (sym is) (rw at_end c.low))
        (λ (apart : u ≡ i → ⊥). let low = below_i u below apart in rw (before u low) (a.least u low))
        cases

    from : (k u : ℕ) → get_or (set firsts h (Some first)) k None ≡ Some u → (k ≡ h) ⊎ (k ≡ h → ⊥) → (u < i + 1) × (half classes s u ≡ k)
    from k u is cases =
        ⊎_elim
        (λ (here : k ≡ h).
        let own : first ≡ u =
        same_Some first u (sym (get_or-set_same firsts h (Some first) None within) ∙ (ap (λ j. get_or (set firsts h (Some first)) j None) (sym here) ∙ is)) in
        let l = c.low in
        (omega (arith, l, own), ap (half classes s) (sym own) ∙ (c.half_is ∙ sym here)))
        (λ (other : k ≡ h → ⊥).
        let f = a.from k u (sym (get_or-set_other firsts h k (Some first) None other) ∙ is) in
        let l = f.0 in
        (omega (arith, l), f.1))
        cases

-- the same where the value i comes, by what the pass does
pub firsts_step : (classes : List ℕ) (s i h : ℕ) (firsts firsts' : List (Option ℕ)) (new new' : List ℕ) (before : Option ℕ) (first : ℕ) → i < length classes
    → AreNumbered classes → h ≡ half classes s i → before ≡ get_or firsts h before → first ≡ unwrap_or before i → firsts' ≡ set firsts h (Some first)
    → new' ≡ new ++ first ∷ [] → AreFirsts classes s i firsts new → AreFirsts classes s (i + 1) firsts' new'
firsts_step classes s i h firsts firsts' new new' before first lt numbered here read chosen put pushed a =
    let e : first ≡ unwrap_or (get_or firsts (half classes s i) None) i =
    chosen
    ∙ ap (λ o. unwrap_or o i)
    (read ∙ (get_or_default firsts h before None (rw a.places (rw here (half_within classes s i lt numbered))) ∙ ap (λ k. get_or firsts k None) here)) in
    rw (put, pushed, here) (firsts_more classes s i firsts new first lt numbered e a)

-- behind the pass
refined_at_end : (classes : List ℕ) (s : ℕ) (firsts : List (Option ℕ)) (new : List ℕ) → AreFirsts classes s (length classes) firsts new
    → AreRefined (λ u v. splits u v s) classes new
refined_at_end classes s firsts new a = record {
  long = a.long;
  numbered = record {
    least = λ v lt. a.least v (rw a.long at lt);
    own = λ v lt.
        let low = rw a.long at lt in
        let f = first_is v low in
        one_number (get_or new v 0) v f.0 low f.1;
  };
  told = λ u v lu lv.
      same_test (same new u v) (nat_eq (half classes s u) (half classes s v))
      (λ t.
      let e = eqb-true (get_or new u 0) (get_or new v 0) t in
      eq-eqb (half classes s u) (half classes s v) (sym (first_is u lu).1 ∙ (ap (half classes s) e ∙ (first_is v lv).1)))
      (λ t. eq-eqb (get_or new u 0) (get_or new v 0) (one_number u v lu lv (eqb-true (half classes s u) (half classes s v) t)))
      ∙ halves_same (get_or classes u 0) (get_or classes v 0) (has s u) (has s v);
}
  where
    first_is : (v : ℕ) → v < length classes → (get_or new v 0 < length classes) × (half classes s (get_or new v 0) ≡ half classes s v)
    first_is v low = a.from (half classes s v) (get_or new v 0) (a.found v low)

    one_number : (u v : ℕ) → u < length classes → v < length classes → half classes s u ≡ half classes s v → get_or new u 0 ≡ get_or new v 0
    one_number u v lu lv e = same_Some (get_or new u 0) (get_or new v 0) (sym (a.found u lu) ∙ (ap (λ k. get_or firsts k None) e ∙ a.found v lv))

pub refined_from : (classes : List ℕ) (s i : ℕ) (firsts : List (Option ℕ)) (new : List ℕ) → length classes ≤ i → AreFirsts classes s i firsts new
    → AreRefined (λ u v. splits u v s) classes new
refined_from classes s i firsts new end a =
    let w = a.within in
    refined_at_end classes s firsts new (subst (λ k. AreFirsts classes s k firsts new) (omega (arith, end, w)) a)
