-- Cubes as lists of literals.
use Rattle.std.specs.Prelude.{◌≡◌, ℕ, Bool, true, ◌&&◌, not, nat_lt, nat_eq, List, [], ◌∷◌}
use Rattle.std.specs.List.{list_all}
use Rattle.mv_base.specs.Set.{has, empty}
use Rattle.mv_cover.specs.Literal.{Lit}

-- the net has one of the literal's values, in an assignment of values to net numbers
abbrev pub holds : (ℕ → ℕ) → Lit → Bool
holds at l = has l.set (at l.net.0)

-- every literal of the cube holds
abbrev pub matches : (ℕ → ℕ) → List Lit → Bool
matches at cube = list_all (holds at) cube

-- the nets ascend
abbrev pub nets_ascend : List Lit → Bool
nets_ascend [] = true
nets_ascend (_ ∷ []) = true
nets_ascend (l ∷ m ∷ ls) = nat_lt l.net.0 m.net.0 && nets_ascend (m ∷ ls)

-- a list of literals that is a cube: the nets ascend, and no set is empty
pub record IsCube (lits : List Lit) : Type 0 where
  pub ascending : nets_ascend lits ≡ true
  pub possible : list_all (λ l. not (nat_eq l.set empty)) lits ≡ true
