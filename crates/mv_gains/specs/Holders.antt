-- What private functions alone cite: the numbers of the tables or cubes that have a literal.
use Rattle.std.specs.Prelude.{◌≡◌, ◌<◌, ◌≤◌, ◌+◌, ℕ, List, [], ◌∷◌, ◌++◌, length, slice_index_or, if◌then◌else◌, Contains}
use Rattle.std.specs.Option.{unwrap_or}
use Rattle.std.specs.List.{list_any}
use Rattle.indexmap.specs.IndexMap.{get}
use Rattle.mv_cover.specs.Literal.{Lit}
use Rattle.mv_cover.specs.Equal.{lit_eq}
use Rattle.mv_gains.specs.declared.holders.Holders.{Holders}

-- the numbers of what has the literal
abbrev pub places_in : Holders → Lit → List ℕ
places_in holders l = unwrap_or (get lit_eq holders.places l) []

-- each of these literals has the number behind its others
pub record IsNoted (literals : List Lit) (number : ℕ) (old new : Lit → List ℕ) : Type 0 where
  pub each : (l : Lit)
      → new l ≡ (if list_any (lit_eq l) literals then old l ++ number ∷ [] else old l)

-- the numbers ascend, from the low one on and below the high one
abbrev pub Ascends : ℕ → ℕ → List ℕ → Type 0
Ascends low high [] = low ≤ high
Ascends low high (p ∷ ps) = (low ≤ p) × Ascends (p + 1) high ps

-- the ascending places in the list, with each one that has it
pub record AreHolders {X : Type 0} (Has : X → Type 0) (xs : List X) (places : List ℕ) : Type 0 where
  pub ascending : Ascends 0 (length xs) places
  pub all : (p : ℕ) (d : X) → p < length xs → Has (slice_index_or xs p d) → Contains places p
