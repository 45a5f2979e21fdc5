-- Lists with nothing in them, and faults that aren't there.
use Rattle.std.proofs.Common.{◌≡◌, Bool, true, false, List, [], ◌∷◌, ◌++◌, refl}
use Rattle.mv_fault.specs.Tells.{when}

-- nothing of two parts together is nothing of either
pub left-nothing : {X : Type 0} (a b : List X) → a ++ b ≡ [] → a ≡ []
left-nothing [] b e = refl
left-nothing (x ∷ a) b e = cc

pub right-nothing : {X : Type 0} (a b : List X) → a ++ b ≡ [] → b ≡ []
right-nothing [] b e = e
right-nothing (x ∷ a) b e = cc

-- no fault where a test fails
pub when-nothing : {F : Type 0} (t : Bool) (f : F) → when t f ≡ [] → t ≡ false
when-nothing true f e = cc
when-nothing false f e = refl
