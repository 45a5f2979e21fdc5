-- What private functions alone cite: what cubes have in common.
use Rattle.std.specs.Prelude.{◌≡◌, ◌≢◌, ◌<◌, ◌≤◌, ℕ, Option, List, [], length, slice_index_or, Contains}
use Rattle.mv_cover.specs.Literal.{Lit}
use Rattle.mv_net.specs.declared.parts.FlatNet.{FlatNet}
use Rattle.mv_gains.specs.Candidates.{common, IsCubeCandidate}
use Rattle.mv_gains.specs.Grown.{IsOneOf}

-- it is the cube, which has at least two symbols
pub record IsTwo (cube d : List Lit) : Type 0 where
  pub is : cube ≡ d
  pub two : 2 ≤ length cube

-- it is what the cube has in common with the one at the place, at least two symbols
abbrev pub IsSharedAt : List (List Lit) → List Lit → ℕ → List Lit → Type 0
IsSharedAt cubes cube place d = IsTwo (common cube (slice_index_or cubes place [])) d

-- it is what the cube has in common with one that has one of its literals
abbrev pub IsSharedBy : List (List Lit) → (Lit → List ℕ) → List Lit → List Lit → Type 0
IsSharedBy cubes places cube d =
    IsOneOf (λ (l : Lit). IsOneOf (IsSharedAt cubes cube) (places l)) cube d

-- it is what two of the first n cubes at different places have in common, at least two symbols
pub record IsCommon (cubes : List (List Lit)) (n : ℕ) (d : List Lit) : Type 0 where
  pub one : ℕ
  pub one_in : one < n
  pub other : ℕ
  pub other_in : other < n
  pub apart : one ≢ other
  pub is : IsTwo (common (slice_index_or cubes one []) (slice_index_or cubes other [])) d

-- the cubes that are that, and no others
pub record AreCommon (cubes : List (List Lit)) (n : ℕ) (found : List (List Lit)) : Type 0 where
  pub each : (d : List Lit) → Contains found d → IsCommon cubes n d
  pub all : (d : List Lit) → IsCommon cubes n d → Contains found d

-- the list has the cubes that are candidates, and no others
pub record AreCubeCandidates (nets : List (Option FlatNet)) (list : List (List (List Lit)))
    : Type 0 where
  pub each : (d : List (List Lit)) → Contains list d → IsCubeCandidate nets d
  pub all : (d : List (List Lit)) → IsCubeCandidate nets d → Contains list d
