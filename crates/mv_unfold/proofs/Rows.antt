-- What the commands of models make, command by command.
use Rattle.std.proofs.Common.{◌≡◌, ℕ, ◌+◌, ◌<◌, Bool, true, false, List, [], ◌∷◌, ◌++◌, length, get_or, refl, sym, ap, subst, arith}
use Rattle.std.proofs.lemmas.List.{length-append, get_or_append_left, get_or_push}
use Rattle.std.specs.Prelude.{nat_lt}
use Rattle.std.proofs.lemmas.Bool.Decides.{nat_tests}

-- what holds of each element at its place holds still with one more element of which it holds
pub each_pushed : {X : Type 0} (P : ℕ → X → Type 0) (xs : List X) (x z : X) (new : List X) → new ≡ xs ++ x ∷ [] → ((k : ℕ) → k < length xs → P k (get_or xs k z))
    → P (length xs) x → (k : ℕ) → k < length new → P k (get_or new k z)
each_pushed {X} P xs x z new is each last k low = subst (λ (ys : List X). P k (get_or ys k z)) (sym is) (split (nat_lt k (length xs)) refl)
  where
    split : (b : Bool) → nat_lt k (length xs) ≡ b → P k (get_or (xs ++ x ∷ []) k z)
    split true e =
        let l : k < length xs = grind (arith, nat_tests) in
        subst (P k) (sym (get_or_append_left xs (x ∷ []) z k l)) (each k l)
    split false e =
        let long : length (xs ++ x ∷ []) ≡ length xs + 1 = length-append xs (x ∷ []) in
        let more : length new ≡ length (xs ++ x ∷ []) = ap length is in
        let k_is : length xs ≡ k = grind (arith, nat_tests) in
        subst (P k) (sym (get_or_push xs x z k k_is)) (subst (λ i. P i x) k_is last)

pub long_pushed : {X : Type 0} (xs : List X) (x : X) (new : List X) (n : ℕ) → new ≡ xs ++ x ∷ [] → length xs ≡ n → length new ≡ n + 1
long_pushed xs x new n is long =
    let a : length new ≡ length (xs ++ x ∷ []) = ap length is in
    let b : length (xs ++ x ∷ []) ≡ length xs + 1 = length-append xs (x ∷ []) in
    omega arith
