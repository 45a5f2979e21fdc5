-- Cubes as lists of literals, by which a cover is decided: what they ask where a net has a value.
use Rattle.std.specs.Prelude.{◌≡◌, ◌<◌, ℕ, Bool, true, false, ◌||◌, not, nat_eq, List, [], ◌∷◌, slice_index, filter, if◌then◌else◌}
use Rattle.std.specs.List.{list_all}
use Rattle.mv_base.specs.Set.{has}
use Rattle.mv_cover.specs.Literal.{Lit}
use Rattle.mv_cover.specs.declared.line.Line.{Line}
use Rattle.mv_cover.specs.declared.covers.Choice.{Choice}
use Rattle.mv_cover.specs.declared.covers.Choice.TheVariants.{Every, Nowhere, On}
use Rattle.mv_cover.specs.Cubes.{matches}
use Rattle.mv_cover.specs.Covers.{cube_reads}
use Rattle.mv_cover.specs.Covering.{IsPoint}

-- some cube holds
abbrev pub cubes_match : (ℕ → ℕ) → List (List Lit) → Bool
cubes_match at [] = false
cubes_match at (c ∷ cs) = matches at c || cubes_match at cs

-- ---- what private functions alone cite

-- some cube has a literal on the net
abbrev pub cubes_read : List (List Lit) → ℕ → Bool
cubes_read [] n = false
cubes_read (c ∷ cs) n = cube_reads c n || cubes_read cs n

-- each net that has a literal has values
pub record AreCubesWithin (counts : List ℕ) (cubes : List (List Lit)) : Type 0 where
  pub valued : (n : ℕ) → cubes_read cubes n ≡ true → 0 < slice_index counts n

-- every point matches some cube
pub record CubesCover (counts : List ℕ) (cubes : List (List Lit)) : Type 0 where
  pub each : (at : ℕ → ℕ) → IsPoint counts at → cubes_match at cubes ≡ true

-- some point matches no cube
pub record CubesMiss (counts : List ℕ) (cubes : List (List Lit)) : Type 0 where
  pub at : ℕ → ℕ
  pub point : IsPoint counts at
  pub missed : cubes_match at cubes ≡ false

-- every assignment matches some cube
pub record MatchEach (cubes : List (List Lit)) : Type 0 where
  pub each : (at : ℕ → ℕ) → cubes_match at cubes ≡ true

-- what a choice says of the cubes
abbrev pub IsChoice : Choice → List (List Lit) → Type 0
IsChoice Every cubes = MatchEach cubes
IsChoice Nowhere cubes = cubes ≡ []
IsChoice (On net) cubes = cubes_read cubes net.0 ≡ true

-- the literal, if it is on the net, has the value
abbrev pub lit_allows : ℕ → ℕ → Lit → Bool
lit_allows n value l = not (nat_eq l.net.0 n) || has l.set value

-- each literal of the cube on the net has the value
abbrev pub cube_allows : ℕ → ℕ → List Lit → Bool
cube_allows n value cube = list_all (lit_allows n value) cube

-- the cube without its literals on the net
abbrev pub cube_without : ℕ → List Lit → List Lit
cube_without n cube = filter (λ l. not (nat_eq l.net.0 n)) cube

-- what the cubes ask of the other nets where the net has the value
abbrev pub cofactor_of : ℕ → ℕ → List (List Lit) → List (List Lit)
cofactor_of n value [] = []
cofactor_of n value (c ∷ cs) = if cube_allows n value c then cube_without n c
    ∷ cofactor_of n value cs else cofactor_of n value cs

-- the cubes of the lines
abbrev pub cubes_of : List Line → List (List Lit)
cubes_of [] = []
cubes_of (l ∷ ls) = l.cube ∷ cubes_of ls
