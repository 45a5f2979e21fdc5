-- What private functions alone cite: the places of the cubes that have each literal.
use Rattle.std.specs.Prelude.{◌≡◌, ◌<◌, ◌≤◌, ℕ, not, nat_lt, List, [], ◌∷◌, ◌++◌, filter, if◌then◌else◌}
use Rattle.std.specs.Option.{unwrap_or}
use Rattle.std.specs.List.{list_any}
use Rattle.indexmap.specs.IndexMap.{get}
use Rattle.mv_cover.specs.Literal.{Lit}
use Rattle.mv_cover.specs.Equal.{lit_eq}
use Rattle.mv_kernels.specs.Symbols.{has_symbol}
use Rattle.mv_meets.specs.Meets.{at}
use Rattle.mv_meets.specs.declared.groups.Groups.{Groups}

-- the places for the literal
abbrev pub places_in : Groups → Lit → List ℕ
places_in groups l = unwrap_or (get lit_eq groups.places l) []

-- the literals on nets from the low one on
abbrev pub from_net : ℕ → List Lit → List Lit
from_net low literals = filter (λ (l : Lit). not (nat_lt l.net.0 low)) literals

-- each of these literals has the place behind its others
pub record IsNoted (literals : List Lit) (place : ℕ) (old new : Lit → List ℕ) : Type 0 where
  pub each : (l : Lit)
      → new l ≡ (if list_any (lit_eq l) literals then old l ++ place ∷ [] else old l)

-- a literal on a net from the low one on has those of the places at which the cube has it, and no
-- other literal has one
pub record AreGroups (cubes : List (List Lit)) (low : ℕ) (places : List ℕ) (found : Lit → List ℕ)
    : Type 0 where
  pub each : (l : Lit) → low ≤ l.net.0 → found l ≡ filter (λ p. has_symbol (at cubes p) l) places
  pub below : (l : Lit) → l.net.0 < low → found l ≡ []
