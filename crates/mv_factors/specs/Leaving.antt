-- Variables that are eliminated from the meet of the sets of a list from a place on.
use Rattle.std.specs.Prelude.{◌≡◌, ◌≤◌, ◌<◌, ◌==◌, ℕ, Bool, true, List, length}
use Rattle.std.specs.List.{list_any}
use Rattle.mv_diagram.specs.Sets.{Point, InRange}
use Rattle.mv_diagram.specs.Quantified.{AgreesOutside}
use Rattle.mv_factors.specs.declared.inner.Inner.{Inner}
use Rattle.mv_factors.specs.Families.{Family, set_at}
use Rattle.mv_factors.specs.Functions.{is_this}

-- the point is in each set from a place on
pub record IsInAll (f : Family) (from : ℕ) (p : Point) : Type 0 where
  pub each : (k : ℕ) → from ≤ k → k < length f.list → set_at f k p ≡ true

-- a point that agrees with this one outside these variables is
pub record IsNearAll (f : Family) (from : ℕ) (vars : ℕ → Bool) (p : Point) : Type 0 where
  pub other : Point
  pub range : InRange f.contents.counts other
  pub agrees : AgreesOutside vars p other
  pub is : IsInAll f from other

-- a set has both or none of two points that differ in this variable alone
pub record IsFreeOf (counts : List ℕ) (set : Point → Bool) (var : ℕ) : Type 0 where
  pub each : (p q : Point) → InRange counts p → InRange counts q → AgreesOutside (is_this var) p q
      → set p ≡ set q

-- so has each set from a place on
pub record AreFreeOf (f : Family) (from var : ℕ) : Type 0 where
  pub each : (k : ℕ) → from ≤ k → k < length f.list
      → IsFreeOf f.contents.counts (λ p. set_at f k p) var

-- the sets from a place on have in common exactly the points that agree, outside these variables,
-- with one that the old ones had in common. They are free of these variables, and of those of which
-- all old ones were
pub record Eliminates (old new : Family) (from : ℕ) (vars : ℕ → Bool) : Type 0 where
  pub some : (p : Point) → InRange old.contents.counts p → IsInAll new from p
      → IsNearAll old from vars p
  pub all : (p q : Point) → InRange old.contents.counts p → InRange old.contents.counts q
      → AgreesOutside vars p q → IsInAll old from q → IsInAll new from p
  pub gone : (v : ℕ) → vars v ≡ true → AreFreeOf new from v
  pub stays : (v : ℕ) → AreFreeOf old from v → AreFreeOf new from v

-- this is true of some of these variables
pub record EliminatesSome (old new : Family) (from : ℕ) (vars : ℕ → Bool) : Type 0 where
  pub done : ℕ → Bool
  pub among : (v : ℕ) → done v ≡ true → vars v ≡ true
  pub is : Eliminates old new from done

-- whether a variable is one of those to eliminate
abbrev pub is_inner : List Inner → ℕ → Bool
is_inner inner v = list_any (λ (i : Inner). i.var == v) inner
