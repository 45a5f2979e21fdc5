-- On which variables the sets of a list may depend, as private functions keep it.
use Rattle.std.specs.Prelude.{◌≡◌, ◌≤◌, ◌<◌, ◌⊎◌, ℕ, Bool, true, false, List, length, Some, is_some, slice_get, vec_capacity}
use Rattle.std.specs.Option.{option_map_or}
use Rattle.std.specs.declared.vec.Vec.{Vec}
use Rattle.std.specs.declared.alloc.Global.{Global}
use Rattle.mv_pool.specs.Walks.{mark}
use Rattle.mv_factors.specs.declared.inner.Inner.{Inner}
use Rattle.mv_factors.specs.declared.seen.Work.{Work}
use Rattle.mv_diagram.specs.Parts.{no_variable}
use Rattle.mv_factors.specs.Families.{Family, Keeps, before, behind, but, but_both, only, set_at}
use Rattle.mv_factors.specs.Leaving.{Eliminates, IsFreeOf, is_inner}

-- whether the set at a place may depend on a variable
abbrev pub may : List (Vec Bool Global) → ℕ → ℕ → Bool
may rows k v =
    option_map_or (λ (row : Vec Bool Global). mark row.items v) (slice_get rows k) false

-- there is a row for each of so many places, with room for so many marks
pub record HasRows (rows : List (Vec Bool Global)) (places vars : ℕ) : Type 0 where
  pub long : places ≤ length rows
  pub room : (k : ℕ) (row : Vec Bool Global) → k < places → slice_get rows k ≡ Some row
      → vars ≤ vec_capacity row

-- and there is room for numbers of the places, and for numbers and marks of the variables
pub record HasRoom (w : Work) (places vars : ℕ) : Type 0 where
  pub marked : HasRows w.rows.items places vars
  pub sized : places ≤ vec_capacity w.sizes
  pub priced : vars ≤ vec_capacity w.costs
  pub listed : vars ≤ vec_capacity w.left

-- the marks of what is left are as before, and there is no less room
pub record KeepsWork (old new : Work) : Type 0 where
  pub left : new.left ≡ old.left
  pub sizes : vec_capacity old.sizes ≤ vec_capacity new.sizes
  pub costs : vec_capacity old.costs ≤ vec_capacity new.costs

-- no set from a place on depends on a variable that isn't marked
pub record AreSeen (f : Family) (from : ℕ) (rows : List (Vec Bool Global)) : Type 0 where
  pub each : (k v : ℕ) → from ≤ k → k < length f.list → may rows k v ≡ false
      → IsFreeOf f.contents.counts (λ p. set_at f k p) v

-- so it is with those before a place
pub record AreSeenBefore (f : Family) (from count : ℕ) (rows : List (Vec Bool Global))
    : Type 0 where
  pub each : (k v : ℕ) → from ≤ k → k < count → may rows k v ≡ false
      → IsFreeOf f.contents.counts (λ p. set_at f k p) v

-- the marks of one place are those of its set, and those of the others are as before
pub record IsSeen (f : Family) (place : ℕ) (old new : List (Vec Bool Global)) : Type 0 where
  pub others : (k v : ℕ) → (k ≡ place → ⊥) → may new k v ≡ may old k v
  pub here : (v : ℕ) → may new place v ≡ false
      → IsFreeOf f.contents.counts (λ p. set_at f place p) v
  pub has : (places vars : ℕ) → HasRows old places vars → HasRows new places vars

-- the variables, the room and the number of sets are as before, and so are the rows; and where the
-- sets were seen, they are
pub record Sees (old new : Family) (rows rows' : List (Vec Bool Global)) : Type 0 where
  pub counts : new.contents.counts ≡ old.contents.counts
  pub cap : new.contents.cap ≡ old.contents.cap
  pub room : old.room ≤ new.room
  pub long : length new.list ≡ length old.list
  pub has : (places vars : ℕ) → HasRows rows places vars → HasRows rows' places vars
  pub seen : (from : ℕ) → AreSeen old from rows → AreSeen new from rows'

-- variables are eliminated from the meet of the sets from a place on, and the earlier sets stay
pub record Goes (old new : Family) (rows rows' : List (Vec Bool Global)) (from : ℕ)
    (vars : ℕ → Bool) : Type 0 where
  pub sees : Sees old new rows rows'
  pub is : Eliminates old new from vars
  pub earlier : Keeps old new (before from)

-- the sets from a place on that stand before another don't depend on a variable, one left out
pub record AreFreeBefore (f : Family) (from var last place : ℕ) : Type 0 where
  pub each : (k : ℕ) → from ≤ k → k < last → (k ≡ place → ⊥)
      → IsFreeOf f.contents.counts (λ p. set_at f k p) var

-- no set at a place behind the last one that may depend on a variable may, one left out
pub record IsLast (rows : List (Vec Bool Global)) (from count var place last : ℕ) : Type 0 where
  pub inside : last < count
  pub behind : from ≤ last
  pub apart : last ≡ place → ⊥
  pub later : (k : ℕ) → last < k → k < count → (k ≡ place → ⊥) → may rows k var ≡ false

-- no set but one may depend on a variable
pub record IsAlone (rows : List (Vec Bool Global)) (from count var place : ℕ) : Type 0 where
  pub each : (k : ℕ) → from ≤ k → k < count → (k ≡ place → ⊥) → may rows k var ≡ false

-- no set may depend on a variable
pub record IsNowhere (rows : List (Vec Bool Global)) (from count var : ℕ) : Type 0 where
  pub each : (k : ℕ) → from ≤ k → k < count → may rows k var ≡ false

-- the sets from a place on don't depend on a variable, two left out
pub record AreFreeBut (f : Family) (from var place other : ℕ) : Type 0 where
  pub each : (k : ℕ) → from ≤ k → k < length f.list → (k ≡ place → ⊥) → (k ≡ other → ⊥)
      → IsFreeOf f.contents.counts (λ p. set_at f k p) var

-- the set of another place is joined to that of a place, if it may depend on a variable
pub record IsJoined (old new : Family) (rows rows' : List (Vec Bool Global))
    (from var place other : ℕ) : Type 0 where
  pub goes : Goes old new rows rows' from no_variable
  pub keeps : Keeps old new (but_both place other)
  pub free : (other ≡ place → ⊥) → IsFreeOf new.contents.counts (λ p. set_at new other p) var

-- the sets before a place that may depend on a variable are joined to one, and the others stay
pub record Joins (old new : Family) (rows rows' : List (Vec Bool Global))
    (from var count place : ℕ) : Type 0 where
  pub goes : Goes old new rows rows' from no_variable
  pub behind : Keeps old new (behind count place)
  pub free : AreFreeBefore new from var count place

-- a set that gives a variable its value is put into that of a place, if that may depend on it
pub record IsPut (old new : Family) (rows rows' : List (Vec Bool Global))
    (from var given place : ℕ) : Type 0 where
  pub goes : Goes old new rows rows' from no_variable
  pub keeps : Keeps old new (but place)
  pub stays : Keeps old new (only given)
  pub free : (place ≡ given → ⊥) → IsFreeOf new.contents.counts (λ p. set_at new place p) var

-- a set that gives a variable its value is put into each set before a place, and stays
pub record Puts (old new : Family) (rows rows' : List (Vec Bool Global))
    (from var count given : ℕ) : Type 0 where
  pub goes : Goes old new rows rows' from no_variable
  pub stays : Keeps old new (only given)
  pub free : AreFreeBefore new from var count given

-- one of the variables, which is marked
pub record IsNext (inner : List Inner) (left : List Bool) (one : Inner) : Type 0 where
  pub among : is_inner inner one.var ≡ true
  pub marked : mark left one.var ≡ true

-- the variable isn't marked, if it is one of which a set may give the value, or one of the others
pub record IsDone (left : List Bool) (given : Bool) (i : Inner) : Type 0 where
  pub is : is_some i.given ≡ given → mark left i.var ≡ false

-- some of the variables are eliminated, and the others are marked
pub record IsUnderWay (old now : Family) (from : ℕ) (inner : List Inner) (left : List Bool)
    : Type 0 where
  pub done : ℕ → Bool
  pub among : (v : ℕ) → done v ≡ true → is_inner inner v ≡ true
  pub rest : (v : ℕ) → is_inner inner v ≡ true → (done v ≡ true) ⊎ (mark left v ≡ true)
  pub is : Eliminates old now from done
