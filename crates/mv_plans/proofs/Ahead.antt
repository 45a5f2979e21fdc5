-- Looking through a list for an element: as long as it wasn't met it stands ahead.
use Rattle.std.proofs.Common.{◌≡◌, ℕ, zero, suc, ◌+◌, ◌<◌, ◌≤◌, List, [], ◌∷◌, length, get_or, drop, refl, sym, subst, arith}
use Rattle.std.specs.List.{Any}
use Rattle.std.proofs.lemmas.List.{drop_all, drop_more}

-- ---- an element of a list

pub any_first : {X : Type 0} (P : X → Type 0) (x : X) (xs : List X) → P x → Any P (x ∷ xs)
any_first P x xs p = (0, x, omega arith, refl, p)

pub any_later : {X : Type 0} (P : X → Type 0) (x : X) (xs : List X) → Any P xs → Any P (x ∷ xs)
any_later P x xs a = (suc a.0, a.1, omega (arith, a.2), a.3, a.4)

pub any_rest : {X : Type 0} (P : X → Type 0) (x : X) (xs : List X) → (P x → ⊥) → Any P (x ∷ xs) → Any P xs
any_rest {X = X} P x xs none a = by a.0 a.1 a.2 a.3 a.4
  where
    by : (k : ℕ) (y : X) → k < length (x ∷ xs) → get_or (x ∷ xs) k y ≡ y → P y → Any P xs
    by zero y low e p = absurd (none (subst P (sym e) p))
    by (suc k) y low e p = (k, y, omega (arith, low), e, p)

pub any_none : {X : Type 0} (P : X → Type 0) → Any P [] → ⊥
any_none P a = let low : a.0 < 0 = a.2 in omega (arith, low)

-- ---- how far one has looked

-- an element of the list of which the claim holds stands at this place or behind
pub record IsAhead {X : Type 0} (P : X → Type 0) (xs : List X) (i : ℕ) : Type 0 where
  pub only : Any P xs → Any P (drop i xs)

pub ahead_none : {X : Type 0} (P : X → Type 0) (xs : List X) → IsAhead P xs 0
ahead_none P xs = record { only = λ a. a }

-- one that isn't such an element is passed
pub ahead_at : {X : Type 0} (P : X → Type 0) (xs : List X) (i : ℕ) (d : X) → i < length xs → (P (get_or xs i d) → ⊥) → IsAhead P xs i → IsAhead P xs (i + 1)
ahead_at P xs i d low none ahead = record { only = λ a. any_rest P (get_or xs i d) (drop (i + 1) xs) none (subst (Any P) (drop_more xs i d low) (ahead.only a)) }

pub ahead_end : {X : Type 0} (P : X → Type 0) (xs : List X) (i : ℕ) → length xs ≤ i → IsAhead P xs i → Any P xs → ⊥
ahead_end P xs i past ahead a = any_none P (subst (Any P) (drop_all i xs past) (ahead.only a))

pub some_here : {X : Type 0} (P : X → Type 0) (xs : List X) (i : ℕ) (x : X) → i < length xs → x ≡ get_or xs i x → P x → Any P xs
some_here P xs i x low e p = (i, x, low, sym e, p)
