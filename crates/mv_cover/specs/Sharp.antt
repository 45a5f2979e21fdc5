-- The disjoint sharp: what of a cube lies outside another, as cubes without common points.
use Rattle.std.specs.Prelude.{◌≡◌, ◌+◌, ◌≤◌, ℕ, true, false, ◌&&◌, nat_eq, nat_lt, List, [], ◌∷◌, ◌++◌, slice_index, unwrap_or, if◌then◌else◌}
use Rattle.mv_base.specs.Set.{empty, full, meet, minus}
use Rattle.mv_base.specs.declared.limits.TheConstants.{MAX_VALUES}
use Rattle.mv_cover.specs.Literal.{Lit}
use Rattle.mv_cover.specs.Cubes.{matches, IsCube}
use Rattle.mv_cover.specs.Covers.{cube_reads}
use Rattle.mv_cover.specs.Covering.{IsPoint}
use Rattle.mv_cover.specs.Overlap.{cubes_meet}
use Rattle.mv_cover.specs.Meets.{literal_at}
use Rattle.mv_cover.specs.Containing.{FitsNet, FitsCube}

-- each literal's set is some of the values that its net has, but not all, and no net has more than
-- a net may have
pub record Suits (counts : List ℕ) (c : List Lit) : Type 0 where
  pub fits : FitsCube counts c
  pub few : (n : ℕ) → cube_reads c n ≡ true → slice_index counts n ≤ MAX_VALUES

-- a cube that suits the counts
pub record IsCubeOver (counts : List ℕ) (c : List Lit) : Type 0 where
  pub cube : IsCube c
  pub suits : Suits counts c

-- no point is one of both cubes
pub record AreDisjoint (counts : List ℕ) (a b : List Lit) : Type 0 where
  pub each : (at : ℕ → ℕ) → IsPoint counts at → (matches at a && matches at b) ≡ false

-- the values that the cube leaves the net: its literal's set there, or all that the net has
abbrev pub values_left : List ℕ → List Lit → ℕ → ℕ
values_left counts c n = unwrap_or (literal_at c n) (full (slice_index counts n))

-- the cube with this literal on its net, in place of one that is there
unfoldable pub with_literal : Lit → List Lit → List Lit
with_literal l [] = l ∷ []
with_literal l (m ∷ ms) = if nat_lt l.net.0 m.net.0 then l ∷ m ∷ ms
    else if nat_lt m.net.0 l.net.0 then m ∷ with_literal l ms else l ∷ ms

-- the cube c with, on the net of the literal, only those of c's values that the literal has
unfoldable pub inside_of : List ℕ → List Lit → Lit → List Lit
inside_of counts c l =
    with_literal (record { net = l.net; set = meet (values_left counts c l.net.0) l.set }) c

-- the cube c with, on the net of the literal, only those of c's values that the literal hasn't:
-- none where it has all
unfoldable pub outside_of : List ℕ → List Lit → Lit → List (List Lit)
outside_of counts c l =
    if nat_eq (minus (values_left counts c l.net.0) l.set) empty then []
    else with_literal (record { net = l.net; set = minus (values_left counts c l.net.0) l.set }) c
    ∷ []

-- for each literal of the second cube the first outside that literal and inside those before it
unfoldable pub parts_outside : List ℕ → List Lit → List Lit → List (List Lit)
parts_outside counts c [] = []
parts_outside counts c (l ∷ ls) = outside_of counts c l
    ++ parts_outside counts (inside_of counts c l) ls

-- the disjoint sharp of the first cube by the second: the first alone where the two don't meet
unfoldable pub sharp_of : List ℕ → List Lit → List Lit → List (List Lit)
sharp_of counts c d = if cubes_meet c d then parts_outside counts c d else c ∷ []

-- ---- what private functions alone cite

-- a literal's set is some of the values that its net has, but not all, and the net has no more than
-- a net may have
pub record SuitsNet (counts : List ℕ) (l : Lit) : Type 0 where
  pub fits : FitsNet counts l.net.0 l.set
  pub few : slice_index counts l.net.0 ≤ MAX_VALUES

-- how many literals stand before the first on this net or a later one
abbrev pub literals_below : ℕ → List Lit → ℕ
literals_below n [] = 0
literals_below n (l ∷ ls) = if nat_lt l.net.0 n then literals_below n ls + 1 else 0
