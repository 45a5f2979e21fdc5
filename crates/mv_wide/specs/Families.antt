-- Lists of sets behind one another: the relations of tables, copies of sets, and meets of sets.
use Rattle.std.specs.Prelude.{◌≡◌, ◌+◌, ◌<◌, ◌≤◌, ◌⊎◌, ◌&&◌, ◌==◌, ℕ, Bool, true, false, not, nat_lt, Option, List, length, slice_index_or, if◌then◌else◌}
use Rattle.mv_base.specs.declared.number.NetId.{NetId}
use Rattle.mv_diagram.specs.Sets.{Point, InRange}
use Rattle.mv_diagram.specs.Quantified.{AgreesOutside}
use Rattle.mv_factors.specs.Families.{Family, set_at}
use Rattle.mv_net.specs.declared.parts.FlatNet.{FlatNet}
use Rattle.mv_relation.specs.Relations.{in_relation}

-- the sets from a place on are the relations of the first of these tables
pub record AreRelations (nets : List (Option FlatNet)) (vars : List ℕ) (tables : List NetId)
    (count : ℕ) (f : Family) (from : ℕ) : Type 0 where
  pub each : (k : ℕ) (m : NetId) (p : Point) → k < count → InRange f.contents.counts p
      → set_at f (from + k) p ≡ in_relation nets vars (slice_index_or tables k m).0 p

-- so many sets from one place on are those from another place on, but one, which has all points
pub record AreCopies (old new : Family) (from count left_out to : ℕ) : Type 0 where
  pub each : (k : ℕ) (p : Point) → k < count
      → set_at new (to + k) p ≡ (if (from + k) == left_out then true else set_at old (from + k) p)

-- the point is in each set from a place on, up to another
pub record IsInEach (f : Family) (from to : ℕ) (p : Point) : Type 0 where
  pub each : (k : ℕ) → from ≤ k → k < to → set_at f k p ≡ true

-- the places between the first and another
abbrev pub between : ℕ → ℕ → Bool
between last k = nat_lt 0 k && nat_lt k last

-- a point that agrees with this one outside these variables is in each set from place 1 on, so many
-- and one left out, and not in the set of a place
pub record IsMissed (f : Family) (tables left_out place : ℕ) (vars : ℕ → Bool) (p : Point)
    : Type 0 where
  pub other : Point
  pub range : InRange f.contents.counts other
  pub agrees : AgreesOutside vars p other
  pub others : (k : ℕ) → 0 < k → k < tables + 1 → (k ≡ left_out → ⊥) → set_at f k other ≡ true
  pub missed : set_at f place other ≡ false

-- the first set gets the points of which that is so, and no others
pub record AddsMissed (old new : Family) (tables left_out place : ℕ) (vars : ℕ → Bool)
    : Type 0 where
  pub only : (p : Point) → InRange old.contents.counts p → set_at new 0 p ≡ true
      → (set_at old 0 p ≡ true) ⊎ IsMissed old tables left_out place vars p
  pub kept : (p : Point) → set_at old 0 p ≡ true → set_at new 0 p ≡ true
  pub all : (p : Point) → InRange old.contents.counts p
      → IsMissed old tables left_out place vars p → set_at new 0 p ≡ true

-- a point that agrees with this one outside these variables is in each set from place 1 on, up to
-- another
pub record IsNearEach (f : Family) (to : ℕ) (vars : ℕ → Bool) (p : Point) : Type 0 where
  pub other : Point
  pub range : InRange f.contents.counts other
  pub agrees : AgreesOutside vars p other
  pub each : IsInEach f 1 to other

-- the point is in each set from place 1 on, so many and one left out
pub record IsInOthers (f : Family) (tables left_out : ℕ) (p : Point) : Type 0 where
  pub each : (k : ℕ) → 0 < k → k < tables + 1 → (k ≡ left_out → ⊥) → set_at f k p ≡ true

-- a point that agrees with this one outside some variables is in each set from place 1 on, so many
-- and one left out, and no point that agrees with that one outside other variables is in all of
-- these sets
pub record IsLacking (f : Family) (tables left_out : ℕ) (hidden beside : ℕ → Bool) (p : Point)
    : Type 0 where
  pub other : Point
  pub range : InRange f.contents.counts other
  pub agrees : AgreesOutside beside p other
  pub others : IsInOthers f tables left_out other
  pub none : IsNearEach f (tables + 1) hidden other → ⊥

-- the first set gets the points of which that is so, and no others
pub record AddsLacking (old new : Family) (tables left_out : ℕ) (hidden beside : ℕ → Bool)
    : Type 0 where
  pub only : (p : Point) → InRange old.contents.counts p → set_at new 0 p ≡ true
      → (set_at old 0 p ≡ true) ⊎ IsLacking old tables left_out hidden beside p
  pub kept : (p : Point) → set_at old 0 p ≡ true → set_at new 0 p ≡ true
  pub all : (p q : Point) → InRange old.contents.counts p → InRange old.contents.counts q
      → AgreesOutside beside p q → IsInOthers old tables left_out q
      → (set_at new 0 p ≡ true) ⊎ IsNearEach old (tables + 1) hidden q

-- ---- what private functions alone cite

-- behind the list stand copies of the sets from place 1 on, so many and one left out, and then the
-- complement of the set of a place
pub record IsStaged (old new : Family) (tables left_out place : ℕ) : Type 0 where
  pub counts : new.contents.counts ≡ old.contents.counts
  pub long : length new.list ≡ length old.list + tables + 1
  pub copies : AreCopies old new 1 tables left_out (length old.list)
  pub turned : (p : Point) → set_at new (length old.list + tables) p ≡ not (set_at old place p)

-- a set has the points of which some point is missed so, and no others
pub record AreMissed (old new : Family) (tables left_out place : ℕ) (vars : ℕ → Bool) (at : ℕ)
    : Type 0 where
  pub only : (p : Point) → InRange old.contents.counts p → set_at new at p ≡ true
      → IsMissed old tables left_out place vars p
  pub all : (p : Point) → InRange old.contents.counts p
      → IsMissed old tables left_out place vars p → set_at new at p ≡ true

-- some set from a place on, up to another, misses the point so
pub record IsMissedIn (f : Family) (tables left_out from to : ℕ) (vars : ℕ → Bool) (p : Point)
    : Type 0 where
  pub place : ℕ
  pub first : from ≤ place
  pub last : place < to
  pub is : IsMissed f tables left_out place vars p

-- the first set gets the points of which that is so, and no others
pub record AddsMissedIn (old new : Family) (tables left_out from to : ℕ) (vars : ℕ → Bool)
    : Type 0 where
  pub only : (p : Point) → InRange old.contents.counts p → set_at new 0 p ≡ true
      → (set_at old 0 p ≡ true) ⊎ IsMissedIn old tables left_out from to vars p
  pub kept : (p : Point) → set_at old 0 p ≡ true → set_at new 0 p ≡ true
  pub all : (p : Point) → InRange old.contents.counts p
      → IsMissedIn old tables left_out from to vars p → set_at new 0 p ≡ true
