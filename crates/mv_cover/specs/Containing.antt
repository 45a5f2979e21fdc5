-- Whether each point of a cube is one of another, and points that aren't.
use Rattle.std.specs.Prelude.{◌≡◌, ◌<◌, ℕ, Bool, true, false, nat_eq, Option, Some, None, List, [], ◌∷◌, slice_index}
use Rattle.std.specs.List.{list_all}
use Rattle.mv_base.specs.Set.{meet, full, Within}
use Rattle.mv_cover.specs.Literal.{Lit}
use Rattle.mv_cover.specs.Cubes.{matches}
use Rattle.mv_cover.specs.Covering.{IsPoint}
use Rattle.mv_cover.specs.Meets.{literal_at}

-- each member of a set is one of the other
abbrev pub set_within : ℕ → ℕ → Bool
set_within t s = nat_eq (meet t s) t

-- a set is there, and each of its members is one of the other
abbrev pub set_lies : Option ℕ → ℕ → Bool
set_lies None s = false
set_lies (Some t) s = set_within t s

-- each literal of b has one of a on its net, whose set is within
abbrev pub lies_in : List Lit → List Lit → Bool
lies_in a b = list_all (λ l. set_lies (literal_at a l.net.0) l.set) b

-- some of the values that the net has, but not all
pub record FitsNet (counts : List ℕ) (n set : ℕ) : Type 0 where
  pub valued : 0 < slice_index counts n
  pub within : Within set (full (slice_index counts n))
  pub not_full : set ≡ full (slice_index counts n) → ⊥

-- each literal's set is some of the values that its net has, but not all
abbrev pub FitsCube : List ℕ → List Lit → Type 0
FitsCube counts [] = Unit {0}
FitsCube counts (l ∷ ls) = FitsNet counts l.net.0 l.set × FitsCube counts ls

-- a point of the second cube that isn't one of the first
pub record MissesPoint (counts : List ℕ) (a b : List Lit) : Type 0 where
  pub at : ℕ → ℕ
  pub point : IsPoint counts at
  pub there : matches at b ≡ true
  pub missed : matches at a ≡ false
