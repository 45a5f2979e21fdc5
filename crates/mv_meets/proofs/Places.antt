-- Ascending places, those of the cubes that have some symbols, and how many cubes have them.
use Rattle.std.proofs.Common.{◌≡◌, ◌∙◌, ℕ, zero, suc, ◌+◌, ◌<◌, ◌≤◌, ◌&&◌, Bool, true, false, cond, List, [], ◌∷◌, ◌++◌, length, filter, get_or, All, Contains, inl, inr, refl, sym, ap, subst, arith}
use Rattle.std.proofs.lemmas.Bool.{cases_Bool, cases_lt, and_from, and_parts, cond-true, cond-false}
use Rattle.std.proofs.lemmas.List.{get_or_default}
use Rattle.std.proofs.lemmas.List.Elements.{All-head, All-tail, All-contains, All-weaker, All-contains_itself, Contains-append_left, Contains-push}
use Rattle.std.proofs.lemmas.List.Sums.{sum_by-cons}
use Rattle.std.specs.List.{count_by}
use Rattle.mv_cover.specs.Literal.{Lit}
use Rattle.mv_kernels.specs.Symbols.{has_symbol, has_each}
use Rattle.mv_kernels.proofs.Lists.{Contains-none, Contains-cons_cases, Contains-filter, Contains-from_filter}
use Rattle.mv_kernels.proofs.Quotients.{has_each-append}
use Rattle.mv_meets.specs.Meets.{at, count}
use Rattle.mv_meets.specs.Search.{Ascends, AreNumbers, AreHolding}

-- ---- ascending places

pub ascends_push : (low high : ℕ) (ps : List ℕ) → Ascends low high ps → Ascends low (high + 1) (ps ++ high ∷ [])
ascends_push low high [] a = (a, omega arith)
ascends_push low high (p ∷ ps) a = (a.0, ascends_push (p + 1) high ps a.1)

pub ascends_few : (low high : ℕ) (ps : List ℕ) → Ascends low high ps → low + length ps ≤ high
ascends_few low high [] a = omega (arith, a)
ascends_few low high (p ∷ ps) a =
    let rest = ascends_few (p + 1) high ps a.1 in
    omega (arith, a.0, rest)

pub ascends_at : (low high : ℕ) (ps : List ℕ) (i d : ℕ) → Ascends low high ps → i < length ps → get_or ps i d < high
ascends_at low high [] i d a h = absurd (omega arith)
ascends_at low high (p ∷ ps) zero d a h =
    let rest = ascends_few (p + 1) high ps a.1 in
    omega (arith, rest)
ascends_at low high (p ∷ ps) (suc i) d a h = ascends_at (p + 1) high ps i d a.1 (omega arith)

pub ascends_has : (low high : ℕ) (ps : List ℕ) (p : ℕ) → Ascends low high ps → Contains ps p → low ≤ p
ascends_has low high [] p a h = absurd (Contains-none p h)
ascends_has low high (q ∷ qs) p a h =
    elim (Contains-cons_cases p q qs h) [
      | inl e ↦ omega (arith, e, a.0)
      | inr t ↦ let rest = ascends_has (q + 1) high qs p a.1 t in omega (arith, rest, a.0)
    ]

-- ---- counting at places

pub count-cons : {X : Type 0} (p : X → Bool) (x : X) (xs : List X) → count_by p (x ∷ xs) ≡ cond (p x) 1 0 + count_by p xs
count-cons p x xs = sum_by-cons (λ y. cond (p y) 1 0) x xs

-- what passes stands at ascending places, so as many places pass
counted : {X : Type 0} (P : X → Bool) (d : X) (f : ℕ → Bool) (xs : List X) (k : ℕ) (places : List ℕ) → Ascends k (k + length xs) places → ((p : ℕ) → p < length xs → f (k + p) ≡ P (get_or xs p d)) → ((p : ℕ) → p < length xs → P (get_or xs p d) ≡ true → Contains places (k + p)) → count_by f places ≡ count_by P xs
counted P d f [] k [] a at all = refl
counted P d f [] k (p ∷ ps) a at all =
    let few = ascends_few (p + 1) (k + 0) ps a.1 in
    absurd (omega (arith, few, a.0))
counted P d f (x ∷ xs) k [] a at all =
    let none : P x ≡ false =
    elim (cases_Bool (P x)) [
      | inl t ↦ absurd (Contains-none (k + 0) (all 0 (omega arith) t))
      | inr n ↦ n
    ] in
    let rest : count_by f [] ≡ count_by P xs =
    counted P d f xs (suc k) [] (omega arith) (λ p low. ap f (omega arith) ∙ at (suc p) (omega arith)) (λ p low t. absurd (Contains-none (k + suc p) (all (suc p) (omega arith) t))) in
    let zeroed = cond-false {A = ℕ} (P x) 1 0 none in
    let first = count-cons P x xs in
    omega (arith, first, zeroed, rest)
counted P d f (x ∷ xs) k (p ∷ ps) a at all =
    let high : k + length (x ∷ xs) ≡ suc k + length xs = omega arith in
    let next : (q : ℕ) → q < length xs → f (suc k + q) ≡ P (get_or xs q d) = λ q low. ap f (omega arith) ∙ at (suc q) (omega arith) in
    let first = count-cons P x xs in
    elim (cases_lt k p) [
      | inl apart ↦
          let none : P x ≡ false =
          elim (cases_Bool (P x)) [
            | inl t ↦
                let low = ascends_has p (k + length (x ∷ xs)) (p ∷ ps) (k + 0) (omega arith, a.1) (all 0 (omega arith) t) in
                absurd (omega (arith, low, apart))
            | inr n ↦ n
          ] in
          let zeroed = cond-false {A = ℕ} (P x) 1 0 none in
          let rest =
          counted P d f xs (suc k) (p ∷ ps) (omega (arith, apart), subst (λ m. Ascends (p + 1) m ps) high a.1) next
          (λ q low t. subst (Contains (p ∷ ps)) (omega arith) (all (suc q) (omega arith) t)) in
          omega (arith, first, zeroed, rest)
      | inr past ↦
          let same : p ≡ k + 0 = omega (arith, past, a.0) in
          let from : p + 1 ≡ suc k = omega (arith, past, a.0) in
          let here : f p ≡ P x = ap f same ∙ at 0 (omega arith) in
          let one : cond {A = ℕ} (f p) 1 0 ≡ cond {A = ℕ} (P x) 1 0 = ap (λ (b : Bool). cond {A = ℕ} b 1 0) here in
          let rest =
          counted P d f xs (suc k) ps (subst (λ m. Ascends m (suc k + length xs) ps) from (subst (λ m. Ascends (p + 1) m ps) high a.1)) next
          (λ q low t.
          elim (Contains-cons_cases (k + suc q) p ps (all (suc q) (omega arith) t)) [
            | inl e ↦ absurd (omega (arith, e, same))
            | inr c ↦ subst (Contains ps) (omega arith) c
          ]) in
          let second = count-cons f p ps in
          omega (arith, first, second, one, rest)
    ]

ascends_filter : (low high : ℕ) (f : ℕ → Bool) (ps : List ℕ) → Ascends low high ps → Ascends low high (filter f ps)
ascends_filter low high f [] a = a
ascends_filter low high f (p ∷ ps) a =
    elim (cases_Bool (f p)) [
      | inl t ↦ rw t (a.0, ascends_filter (p + 1) high f ps a.1)
      | inr n ↦ rw n (ascends_from low (p + 1) high (filter f ps) (omega (arith, a.0)) (ascends_filter (p + 1) high f ps a.1))
    ]
  where
    ascends_from : (low more high : ℕ) (ps : List ℕ) → low ≤ more → Ascends more high ps → Ascends low high ps
    ascends_from low more high [] w a = omega (arith, w, a)
    ascends_from low more high (p ∷ ps) w a = (omega (arith, w, a.0), a.1)

-- ---- items at places

pub at_item : (cubes : List (List Lit)) (p : ℕ) (cube : List Lit) → p < length cubes → cube ≡ get_or cubes p cube → cube ≡ at cubes p
at_item cubes p cube low is = is ∙ get_or_default cubes p cube [] low

pub own_item : (xs : List ℕ) (i : ℕ) → i < length xs → get_or xs i 0 ≡ get_or xs i (get_or xs i 0)
own_item xs i low = get_or_default xs i 0 (get_or xs i 0) low

-- ---- numbers

-- the numbers below the count, one after another
pub numbers_none : AreNumbers 0 []
numbers_none = record { ascending = omega arith; all = λ n low. absurd (omega arith) }

pub numbers_more : (k : ℕ) (list : List ℕ) → AreNumbers k list → AreNumbers (k + 1) (list ++ k ∷ [])
numbers_more k list a = record {
  ascending = ascends_push 0 k list a.ascending;
  all = λ n low.
      elim (cases_lt n k) [
        | inl before ↦ Contains-append_left list (k ∷ []) n (a.all n before)
        | inr past ↦ subst (Contains (list ++ k ∷ [])) (omega (arith, low, past)) (Contains-push list k)
      ];
}

-- ---- the places of the cubes that have some symbols

-- all have none
pub holding_none : (cubes : List (List Lit)) (places : List ℕ) → AreNumbers (length cubes) places → AreHolding cubes [] places
holding_none cubes places a = record {
  ascending = a.ascending;
  each = All-weaker (Contains places) (λ p. has_each [] (at cubes p) ≡ true) (λ p i. refl) places (All-contains_itself places);
  all = λ p low t. a.all p low;
}

-- those at which there is one more
pub holding_more : (cubes : List (List Lit)) (d : List Lit) (l : Lit) (places : List ℕ) → AreHolding cubes d places → AreHolding cubes (d ++ l ∷ []) (filter (λ p. has_symbol (at cubes p) l) places)
holding_more cubes d l places a =
    let f : ℕ → Bool = λ p. has_symbol (at cubes p) l in
    let both : (p : ℕ) → has_each (d ++ l ∷ []) (at cubes p) ≡ (has_each d (at cubes p) && (f p && true)) = λ p. has_each-append d (l ∷ []) (at cubes p) in
    record {
      ascending = ascends_filter 0 (length cubes) f places a.ascending;
      each = All-weaker (Contains (filter f places)) (λ p. has_each (d ++ l ∷ []) (at cubes p) ≡ true)
          (λ p i.
          let was = Contains-from_filter f places p i in
          both p ∙ and_from (has_each d (at cubes p)) (f p && true) (All-contains (λ q. has_each d (at cubes q) ≡ true) places p a.each was.0) (and_from (f p) true was.1 refl))
          (filter f places) (All-contains_itself (filter f places));
      all = λ p low t.
          let parts = and_parts (has_each d (at cubes p)) (f p && true) (sym (both p) ∙ t) in
          Contains-filter f places p (and_parts (f p) true parts.1).0 (a.all p low parts.0);
    }

count_all : {X : Type 0} (p : X → Bool) (xs : List X) → All (λ x. p x ≡ true) xs → count_by p xs ≡ length xs
count_all p [] a = refl
count_all p (x ∷ xs) a =
    let first = count-cons p x xs in
    let one = cond-true {A = ℕ} (p x) 1 0 (All-head (λ y. p y ≡ true) x xs a) in
    let rest = count_all p xs (All-tail (λ y. p y ≡ true) x xs a) in
    omega (arith, first, one, rest)

-- there are as many as cubes that have the symbols
pub holding_count : (cubes : List (List Lit)) (d : List Lit) (places : List ℕ) → AreHolding cubes d places → length places ≡ count d cubes
holding_count cubes d places a =
    let has : ℕ → Bool = λ p. has_each d (at cubes p) in
    let up : (n : ℕ) → n ≡ 0 + n = λ n. omega arith in
    sym (count_all has places a.each)
    ∙ counted (has_each d) [] has cubes 0 places (subst (λ n. Ascends 0 n places) (up (length cubes)) a.ascending) (λ p low. ap has (sym (up p)))
    (λ p low t. subst (Contains places) (up p) (a.all p low t))

-- ascending places are below the number of cubes
pub below_count : (high : ℕ) (ps : List ℕ) → Ascends 0 high ps → All (λ p. p < high) ps
below_count high ps a =
    All-weaker (Contains ps) (λ p. p < high)
    (λ p h.
    let low = ascends_at 0 high ps h.0 p a h.1 in
    omega (arith, low, h.2)) ps (All-contains_itself ps)

pub holding_below : (cubes : List (List Lit)) (d : List Lit) (places : List ℕ) → AreHolding cubes d places → All (λ p. p < length cubes) places
holding_below cubes d places a = below_count (length cubes) places a.ascending
