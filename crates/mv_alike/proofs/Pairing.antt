-- The first two values of one class, value by value.
use Rattle.std.proofs.Common.{◌≡◌, ◌∙◌, ◌⊎◌, inl, inr, ℕ, ◌+◌, ◌<◌, ◌≤◌, Bool, true, false, ◌&&◌, not, nat_eq, nat_lt, List, Option, Some, None, MatchOption, length, get_or, refl, sym, ap, subst, arith, ⊎_elim, eqb-true}
use Rattle.std.proofs.lemmas.Bool.{and_parts, and_cases, cases_eq, cases_lt, cond_both, eqb-false, ltb-true, ltb-false, not-true, not-false}
use Rattle.mv_base.specs.declared.number.Value.{Value}
use Rattle.mv_alike.specs.Classes.{AreNumbered}
use Rattle.mv_alike.specs.Pairs.{AreAllApart, IsFirstPair, is_earlier, earlier}
use Rattle.mv_alike.specs.declared.pair.Pair.{Pair}

-- what is known of the values below i
abbrev pub Found : List ℕ → ℕ → Option Pair → Type 0
Found classes i first = MatchOption first (AreAllApart classes i) (IsFirstPair classes i)

pub found_begin : (classes : List ℕ) → Found classes 0 None
found_begin classes = record { alone = λ v lt. absurd (omega (arith, lt)) }

pub found_end : (classes : List ℕ) (i : ℕ) (first : Option Pair) → i ≤ length classes → length classes ≤ i → Found classes i first → Found classes (length classes) first
found_end classes i first le ge f = subst (λ k. Found classes k first) (omega (arith, le, ge)) f

-- a value below i + 1 is below i, or is i
last_or : (v i : ℕ) → v < i + 1 → (v < i) ⊎ (v ≡ i)
last_or v i lt = ⊎_elim (λ (l : v < i). inl l) (λ (le : i ≤ v). inr (omega (arith, lt, le))) (cases_lt v i)

abbrev pair_of : ℕ → ℕ → Pair
pair_of low high = record { low = record { 0 = low }; high = record { 0 = high } }

pub found_more : (classes : List ℕ) (i : ℕ) (first : Option Pair) → i < length classes → AreNumbered classes → Found classes i first
    → Found classes (i + 1) (earlier first (get_or classes i 0) i)
found_more classes i None lt numbered f =
    cond_both (is_earlier None (get_or classes i 0) i) (Some (pair_of (get_or classes i 0) i)) None (Found classes (i + 1))
    (λ t.
    let apart = eqb-false (get_or classes i 0) i (not-true (nat_eq (get_or classes i 0) i) t) in
    let le = numbered.least i lt in
    record {
      ordered = less (get_or classes i 0) i le apart;
      high = omega arith;
      class = refl;
      first = λ v below cut.
          ⊎_elim
          (λ (l : v < i). let e = f.alone v l in absurd (omega (arith, e, cut)))
          (λ (e : v ≡ i). subst (λ u. get_or classes i 0 ≤ get_or classes u 0) (sym e) (omega arith))
          (last_or v i below);
      second = λ v below cut same.
          ⊎_elim (λ (l : v < i). let e = f.alone v l in absurd (omega (arith, e, cut))) (λ (e : v ≡ i). omega (arith, e)) (last_or v i below);
    })
    (λ t.
    let is = eqb-true (get_or classes i 0) i (not-false (nat_eq (get_or classes i 0) i) t) in
    record {
      alone = λ v below. ⊎_elim (λ (l : v < i). f.alone v l) (λ (e : v ≡ i). subst (λ u. get_or classes u 0 ≡ u) (sym e) is) (last_or v i below);
    })
  where
    less : (a b : ℕ) → a ≤ b → (a ≡ b → ⊥) → a < b
    less a b le apart = ⊎_elim (λ (l : a < b). l) (λ (ge : b ≤ a). absurd (apart (omega (arith, le, ge)))) (cases_lt a b)
found_more classes i (Some p) lt numbered f =
    cond_both (is_earlier (Some p) (get_or classes i 0) i) (Some (pair_of (get_or classes i 0) i)) (Some p) (Found classes (i + 1))
    (λ t.
    let parts = and_parts (not (nat_eq (get_or classes i 0) i)) (nat_lt (get_or classes i 0) p.low.0) t in
    let before = ltb-true (get_or classes i 0) p.low.0 parts.1 in
    let ordered = f.ordered in
    let high = f.high in
    record {
      ordered = omega (arith, before, ordered, high);
      high = omega arith;
      class = refl;
      first = λ v below cut.
          ⊎_elim
          (λ (l : v < i). let le = f.first v l cut in omega (arith, le, before))
          (λ (e : v ≡ i). subst (λ u. get_or classes i 0 ≤ get_or classes u 0) (sym e) (omega arith))
          (last_or v i below);
      second = λ v below cut same.
          ⊎_elim
          (λ (l : v < i). let le = f.first v l cut in absurd (omega (arith, le, before, same)))
          (λ (e : v ≡ i). omega (arith, e))
          (last_or v i below);
    })
    (λ t.
    let high = f.high in
    record {
      ordered = f.ordered;
      high = omega (arith, high);
      class = f.class;
      first = λ v below cut.
          ⊎_elim
          (λ (l : v < i). f.first v l cut)
          (λ (e : v ≡ i).
          subst (λ u. p.low.0 ≤ get_or classes u 0) (sym e)
          (⊎_elim
          (λ (one : not (nat_eq (get_or classes i 0) i) ≡ false).
          let is = eqb-true (get_or classes i 0) i (not-false (nat_eq (get_or classes i 0) i) one) in
          let cut : get_or classes i 0 < i = subst (λ u. get_or classes u 0 < u) e cut in
          absurd (omega (arith, is, cut)))
          (λ (late : nat_lt (get_or classes i 0) p.low.0 ≡ false). ltb-false (get_or classes i 0) p.low.0 late)
          (and_cases (not (nat_eq (get_or classes i 0) i)) (nat_lt (get_or classes i 0) p.low.0) t)))
          (last_or v i below);
      second = λ v below cut same. ⊎_elim (λ (l : v < i). f.second v l cut same) (λ (e : v ≡ i). omega (arith, e, high)) (last_or v i below);
    })
