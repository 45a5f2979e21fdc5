-- Lists in which nothing passes a test, and nothing fails it.
use Rattle.std.proofs.Common.{◌≡◌, Bool, true, false, not, List, [], ◌∷◌, refl, ⊎_elim}
use Rattle.std.specs.Prelude.{filter}
use Rattle.std.proofs.lemmas.Bool.{cases_Bool}

some-not-nothing : {X : Type 0} (x : X) (xs : List X) → x ∷ xs ≡ [] → ⊥
some-not-nothing x xs e = cc

-- where neither what passes a test is left nor what fails it, there was nothing
pub filters-nothing : {X : Type 0} (p : X → Bool) (xs : List X) → filter (λ x. not (p x)) xs ≡ [] → filter p xs ≡ [] → xs ≡ []
filters-nothing p [] fails passes = refl
filters-nothing p (x ∷ xs) fails passes =
    ⊎_elim
    (λ (y : p x ≡ true). absurd (some-not-nothing x (filter p xs) (rw y at passes)))
    (λ (n : p x ≡ false). absurd (some-not-nothing x (filter (λ z. not (p z)) xs) (rw n at fails)))
    (cases_Bool (p x))
