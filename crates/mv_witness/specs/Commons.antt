-- What sets of a list have in common.
use Rattle.std.specs.Prelude.{◌≡◌, ◌+◌, ◌-◌, ◌≤◌, ◌<◌, ℕ, true, List, [], length, slice_index}
use Rattle.mv_diagram.specs.declared.cube.Literal.{Literal}
use Rattle.mv_diagram.specs.Cubes.{in_cube}
use Rattle.mv_diagram.specs.Sets.{Point, InRange}
use Rattle.mv_factors.specs.Families.{Family, Keeps, before, set_at}
use Rattle.mv_factors.specs.Leaving.{IsInAll}

-- the point is in each set from one place up to another
pub record IsInPart (f : Family) (from to : ℕ) (p : Point) : Type 0 where
  pub each : (k : ℕ) → from ≤ k → k < to → set_at f k p ≡ true

-- the sets put behind the list have in common what those from one place up to another have, and are
-- no more than these
pub record Copies (old new : Family) (from to : ℕ) : Type 0 where
  pub keeps : Keeps old new (before (length old.list))
  pub behind : length old.list ≤ length new.list
  pub few : length new.list ≤ length old.list + (to - from)
  pub some : (p : Point) → InRange old.contents.counts p → IsInAll new (length old.list) p
      → IsInPart old from to p
  pub all : (p : Point) → InRange old.contents.counts p → IsInPart old from to p
      → IsInAll new (length old.list) p

-- the point has the value 0 behind all variables
pub record IsBare (counts : List ℕ) (p : Point) : Type 0 where
  pub rest : (v : ℕ) → length counts ≤ v → p v ≡ 0

-- a point in each set from a place on, with a value in the set of each literal
pub record HasCommon (f : Family) (from : ℕ) (literals : List Literal) : Type 0 where
  pub point : Point
  pub range : InRange f.contents.counts point
  pub bare : IsBare f.contents.counts point
  pub all : IsInAll f from point
  pub is : in_cube literals point ≡ true

-- a point in each set from a place on, with this value of a variable
pub record CanBe (f : Family) (from var value : ℕ) : Type 0 where
  pub point : Point
  pub range : InRange f.contents.counts point
  pub bare : IsBare f.contents.counts point
  pub all : IsInAll f from point
  pub is : point var ≡ value

-- a point in each set from a place on, with these values of the first variables
pub record HasValues (f : Family) (from : ℕ) (values : List ℕ) : Type 0 where
  pub point : Point
  pub range : InRange f.contents.counts point
  pub all : IsInAll f from point
  pub same : (k : ℕ) → k < length values → point k ≡ slice_index values k

-- ---- what private functions alone cite

-- the sets put behind the list have in common what those from a place on have, and a value in the
-- set of each literal
pub record CopiesWith (old new : Family) (from : ℕ) (literals : List Literal) : Type 0 where
  pub some : (p : Point) → InRange old.contents.counts p → IsInAll new (length old.list) p
      → IsInAll old from p × (in_cube literals p ≡ true)
  pub all : (p : Point) → InRange old.contents.counts p → IsInAll old from p
      → in_cube literals p ≡ true → IsInAll new (length old.list) p

-- one set more, so that the sets from a place on have a common point, and all such points are old
-- ones and have this value of a variable
pub record IsFixed (old new : Family) (from var value : ℕ) : Type 0 where
  pub long : length new.list ≡ length old.list + 1
  pub all : (p : Point) → InRange old.contents.counts p → IsInAll new from p → IsInAll old from p
  pub here : (p : Point) → InRange old.contents.counts p → IsInAll new from p → p var ≡ value
  pub some : HasCommon new from []
