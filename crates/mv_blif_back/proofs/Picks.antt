-- Tests of what is picked from lists.
use Rattle.std.proofs.Common.{◌≡◌, ◌∙◌, ℕ, zero, suc, Bool, true, List, [], ◌∷◌, Option, Some, refl, slice_get}
use Rattle.std.specs.Prelude.{nat_eq, filter}
use Rattle.std.specs.List.{list_all, list_any, flat_map}
use Rattle.std.proofs.lemmas.Bool.{cond_both, and_from, or_left, or_right, eq-eqb}
use Rattle.std.proofs.lemmas.List.Folds.{list_all-append}
use Rattle.mv_net.specs.declared.parts.FlatNet.{FlatNet}
use Rattle.mv_net.specs.Nets.{slot}

-- what passes one test passes another
pub filter-pass : {X : Type 0} (p q : X → Bool) (xs : List X) → ((x : X) → p x ≡ true → q x ≡ true) → list_all q (filter p xs) ≡ true
filter-pass p q [] each = refl
filter-pass p q (x ∷ xs) each =
    let rest = filter-pass p q xs each in
    cond_both (p x) (x ∷ filter p xs) (filter p xs) (λ ys. list_all q ys ≡ true) (λ y. and_from (q x) _ (each x y) rest) (λ n. rest)

-- each element of a list whose key stands in it passes
pub keyed-pass : {X : Type 0} (key : X → ℕ) (q : X → Bool) (xs : List X) → ((x : X) → list_any (λ y. nat_eq (key y) (key x)) xs ≡ true → q x ≡ true) → list_all q xs ≡ true
keyed-pass key q [] each = refl
keyed-pass key q (x ∷ xs) each =
    and_from (q x) _ (each x (or_left _ _ (eq-eqb (key x) (key x) refl))) (keyed-pass key q xs (λ y h. each y (or_right _ _ h)))

-- what is made of each element at its place passes
pub placed-pass : {X Y : Type 0} (q : Y → Bool) (f : X → List Y) (xs : List X) → ((k : ℕ) (x : X) → slice_get xs k ≡ Some x → list_all q (f x) ≡ true) → list_all q (flat_map f xs) ≡ true
placed-pass q f [] each = refl
placed-pass q f (x ∷ xs) each =
    list_all-append q (f x) (flat_map f xs) ∙ and_from (list_all q (f x)) _ (each zero x refl) (placed-pass q f xs (λ k y h. each (suc k) y h))

-- the net at a place
pub slot-at : (nets : List (Option FlatNet)) (k : ℕ) (o : Option FlatNet) → slice_get nets k ≡ Some o → slot nets k ≡ o
slot-at [] k o e = cc
slot-at (n ∷ nets) zero o e = cc
slot-at (n ∷ nets) (suc k) o e = slot-at nets k o e
