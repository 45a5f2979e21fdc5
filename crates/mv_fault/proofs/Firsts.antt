-- The first fault of a list in two parts.
use Rattle.std.proofs.Common.{◌≡◌, ◌⊎◌, ⊎_elim, inl, inr, List, [], ◌∷◌, ◌++◌}
use Rattle.std.specs.Prelude.{Some}
use Rattle.mv_fault.specs.Tells.{first}

-- it is that of the first part, if that has one
pub first-append : {F : Type 0} (f : F) (a b : List F) → first a ≡ Some f → first (a ++ b) ≡ Some f
first-append f [] b e = cc
first-append f (g ∷ a) b e = e

-- and else that of the second
pub first-behind : {F : Type 0} (f : F) (a b : List F) → a ≡ [] → first b ≡ Some f → first (a ++ b) ≡ Some f
first-behind f [] b e h = h
first-behind f (g ∷ a) b e h = cc

pub ruleset firsts = (first-append, first-behind)

-- no fault in either part is none in both
pub append-nothing : {F : Type 0} (a b : List F) → a ≡ [] → b ≡ [] → a ++ b ≡ []
append-nothing [] b e h = h
append-nothing (f ∷ a) b e h = cc

-- an answer that tells the first of some faults, or want of memory, tells the first of others, where that is the same
pub told_of : {F : Type 0} (memory f : F) (us vs : List F) → ((g : F) → first us ≡ Some g → first vs ≡ Some g) → (f ≡ memory) ⊎ (first us ≡ Some f) → (f ≡ memory) ⊎ (first vs ≡ Some f)
told_of memory f us vs h t = ⊎_elim (λ m. inl m) (λ e. inr (h f e)) t
