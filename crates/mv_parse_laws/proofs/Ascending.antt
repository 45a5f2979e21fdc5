-- Numbers that ascend, and parts of them.
use Rattle.std.proofs.Common.{◌≡◌, ℕ, ◌<◌, true, false, List, [], ◌∷◌, ◌++◌, refl, arith}
use Rattle.std.specs.Prelude.{nat_lt, nat_eq, not}
use Rattle.std.specs.List.{list_any}
use Rattle.std.proofs.lemmas.Bool.{and_parts, and_from, or_from, not_from_false, not-true, ltb-true, lt-ltb, ne_eqb}
use Rattle.mv_design.specs.Proper.{numbers_ascend, none_in_both}

-- the first and those behind it
pub first-below : (m n : ℕ) (ns : List ℕ) → numbers_ascend (m ∷ n ∷ ns) ≡ true → m < n
first-below m n ns up = ltb-true m n (and_parts (nat_lt m n) (numbers_ascend (n ∷ ns)) up).0

pub ascend-tail : (n : ℕ) (ns : List ℕ) → numbers_ascend (n ∷ ns) ≡ true → numbers_ascend ns ≡ true
ascend-tail n [] up = refl
ascend-tail m (n ∷ ns) up = (and_parts (nat_lt m n) (numbers_ascend (n ∷ ns)) up).1

pub ascend-cons : (m n : ℕ) (ns : List ℕ) → m < n → numbers_ascend (n ∷ ns) ≡ true → numbers_ascend (m ∷ n ∷ ns) ≡ true
ascend-cons m n ns low up = and_from (nat_lt m n) (numbers_ascend (n ∷ ns)) (lt-ltb m n low) up

-- a lower first one
pub ascend-lower : (m n : ℕ) (ns : List ℕ) → m < n → numbers_ascend (n ∷ ns) ≡ true → numbers_ascend (m ∷ ns) ≡ true
ascend-lower m n [] low up = refl
ascend-lower m n (k ∷ ns) low up =
    let high : n < k = first-below n k ns up in
    ascend-cons m k ns (omega arith) (ascend-tail n (k ∷ ns) up)

-- the front, and what is behind it
pub ascend-front : (ms ns : List ℕ) → numbers_ascend (ms ++ ns) ≡ true → numbers_ascend ms ≡ true
ascend-front [] ns up = refl
ascend-front (m ∷ []) ns up = refl
ascend-front (m ∷ n ∷ ms) ns up =
    ascend-cons m n ms (first-below m n (ms ++ ns) up) (ascend-front (n ∷ ms) ns (ascend-tail m ((n ∷ ms) ++ ns) up))

pub ascend-behind : (ms ns : List ℕ) → numbers_ascend (ms ++ ns) ≡ true → numbers_ascend ns ≡ true
ascend-behind [] ns up = up
ascend-behind (m ∷ ms) ns up = ascend-behind ms ns (ascend-tail m (ms ++ ns) up)

-- a number is not among the higher ones behind it
pub none-behind : (n : ℕ) (ns : List ℕ) → numbers_ascend (n ∷ ns) ≡ true → list_any (nat_eq n) ns ≡ false
none-behind n [] up = refl
none-behind n (m ∷ ns) up =
    let high : n < m = first-below n m ns up in
    or_from (nat_eq n m) (list_any (nat_eq n) ns) (ne_eqb n m (omega arith)) (none-behind n ns (ascend-lower n m ns high (ascend-tail n (m ∷ ns) up)))

-- and none of those is the lower one
pub none-first : (n : ℕ) (ms ns : List ℕ) → numbers_ascend (n ∷ ms) ≡ true → none_in_both ms ns ≡ true → none_in_both ms (n ∷ ns) ≡ true
none-first n [] ns up none = refl
none-first n (m ∷ ms) ns up none =
    let high : n < m = first-below n m ms up in
    let p = and_parts (not (list_any (nat_eq m) ns)) (none_in_both ms ns) none in
    and_from _ _ (not_from_false _ (or_from (nat_eq m n) (list_any (nat_eq m) ns) (ne_eqb m n (omega arith)) (not-true _ p.0)))
    (none-first n ms ns (ascend-lower n m ms high (ascend-tail n (m ∷ ms) up)) p.1)
