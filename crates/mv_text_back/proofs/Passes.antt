-- Tests that all elements of a list pass.
use Rattle.std.proofs.Common.{◌≡◌, ℕ, zero, suc, ◌+◌, ◌<◌, ◌≤◌, Bool, true, false, List, [], ◌∷◌, get_or, refl, ◌∙◌, arith, ⊎_elim}
use Rattle.std.specs.Prelude.{nat_eq, filter}
use Rattle.std.specs.List.{list_all, flat_map, range_with_len}
use Rattle.std.proofs.lemmas.Bool.{cases_Bool, and_from, or_left, or_right, eq-eqb}
use Rattle.std.proofs.lemmas.List.Folds.{list_all-append}
use Rattle.mv_base.specs.declared.number.NetId.{NetId}
use Rattle.mv_graph.specs.Nets.{has_id}

-- what is made of each element passes a test
pub flat_map-pass : {X Y : Type 0} (q : Y → Bool) (f : X → List Y) (xs : List X) (d : X) → ((i : ℕ) → list_all q (f (get_or xs i d)) ≡ true) → list_all q (flat_map f xs) ≡ true
flat_map-pass q f [] d each = refl
flat_map-pass q f (x ∷ xs) d each =
    list_all-append q (f x) (flat_map f xs) ∙ and_from (list_all q (f x)) _ (each zero) (flat_map-pass q f xs d (λ i. each (suc i)))

-- a test of nets that each net of the list passes
pub stands-pass : (q : NetId → Bool) (ns : List NetId) → ((n : NetId) → has_id ns n.0 ≡ true → q n ≡ true) → list_all q ns ≡ true
stands-pass q [] each = refl
stands-pass q (n ∷ ns) each =
    and_from (q n) _ (each n (or_left (nat_eq n.0 n.0) (has_id ns n.0) (eq-eqb n.0 n.0 refl))) (stands-pass q ns (λ m s. each m (or_right (nat_eq n.0 m.0) (has_id ns m.0) s)))

-- of the numbers of a range those that pass one test pass another, if each number below the range's end does
pub picked-pass : (p q : ℕ → Bool) (a n end : ℕ) → a + n ≤ end → ((k : ℕ) → k < end → p k ≡ true → q k ≡ true) → list_all q (filter p (range_with_len a n)) ≡ true
picked-pass p q a zero end low each = refl
picked-pass p q a (suc n) end low each =
    let rest = picked-pass p q (a + 1) n end (omega (arith, low)) each in
    ⊎_elim
    (λ (y : p a ≡ true). rw y (and_from (q a) _ (each a (omega (arith, low)) y) rest))
    (λ (f : p a ≡ false). rw f rest)
    (cases_Bool (p a))
