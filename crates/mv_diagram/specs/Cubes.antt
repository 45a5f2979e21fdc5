-- Cubes: the points with a value in one set of each of some variables.
use Rattle.std.specs.Prelude.{◌≡◌, ◌<◌, ◌&&◌, ℕ, Bool, true, false, List, [], ◌∷◌, length, slice_index, slice_index_or}
use Rattle.mv_base.specs.Set.{has}
use Rattle.mv_diagram.specs.declared.cube.Literal.{Literal}
use Rattle.mv_diagram.specs.Sets.{Point}

-- whether a point has a value in the set of each literal
abbrev pub in_cube : List Literal → Point → Bool
in_cube [] p = true
in_cube (l ∷ ls) p = has l.set (p l.var) && in_cube ls p

-- the variables of the literals ascend
pub record AscendingVars (literals : List Literal) : Type 0 where
  pub each : (i j : ℕ) (l : Literal) → i < j → j < length literals
      → (slice_index_or literals i l).var < (slice_index_or literals j l).var

-- a set has a value of its variable
pub record HasSome (counts : List ℕ) (var set : ℕ) : Type 0 where
  pub value : ℕ
  pub below : value < slice_index counts var
  pub is : has set value ≡ true

-- ---- what private functions alone cite

-- it has none
pub record HasNone (counts : List ℕ) (var set : ℕ) : Type 0 where
  pub each : (value : ℕ) → value < slice_index counts var → has set value ≡ false

-- each of the first literals has a value of its variable in its set
pub record AreSome (counts : List ℕ) (literals : List Literal) (count : ℕ) : Type 0 where
  pub each : (k : ℕ) (l : Literal) → k < count
      → HasSome counts (slice_index_or literals k l).var (slice_index_or literals k l).set

-- the variable stands before those of the literals from one on
pub record IsBefore (var : ℕ) (literals : List Literal) (at : ℕ) : Type 0 where
  pub first : (l : Literal) → at < length literals → var < (slice_index_or literals at l).var
