-- Points with a value of each variable's set.
use Rattle.std.specs.Prelude.{◌≡◌, ◌≤◌, ◌<◌, ◌⊎◌, ℕ, Bool, true, false, List, length, Option, Some, slice_index, slice_index_or}
use Rattle.mv_base.specs.Set.{has}
use Rattle.mv_pool.specs.Walks.{mark}
use Rattle.mv_pool.specs.declared.pool.Id.{Id}
use Rattle.mv_diagram.specs.declared.node.Node.{Node}
use Rattle.mv_diagram.specs.Cubes.{HasSome}
use Rattle.mv_diagram.specs.Links.{place_of}
use Rattle.mv_diagram.specs.Sets.{Point, InRange, has_diagram, holds, node_at}
use Rattle.mv_diagram.specs.Sound.{first, order}

-- the set of a variable
abbrev pub set_at : List ℕ → ℕ → ℕ
set_at sets v = slice_index_or sets v 0

-- each variable has a set, with some of its values and no others
pub record AreChoices (counts sets : List ℕ) : Type 0 where
  pub long : length sets ≡ length counts
  pub some : (v : ℕ) → v < length counts → HasSome counts v (set_at sets v)
  pub within : (v value : ℕ) → v < length counts → has (set_at sets v) value ≡ true
      → value < slice_index counts v

-- a point has a value of each set
pub record Fits (counts sets : List ℕ) (p : Point) : Type 0 where
  pub range : InRange counts p
  pub each : (v : ℕ) → v < length counts → has (set_at sets v) (p v) ≡ true

-- a point of a set fits
pub record Meets (counts sets : List ℕ) (set : Point → Bool) : Type 0 where
  pub point : Point
  pub fits : Fits counts sets point
  pub is : set point ≡ true

-- none does
pub record Misses (counts sets : List ℕ) (set : Point → Bool) : Type 0 where
  pub each : (p : Point) → Fits counts sets p → set p ≡ true → ⊥

-- ---- what private functions alone cite

-- the marked places are those of diagrams of which no point fits
pub record AreMissed (counts : List ℕ) (ns : List (Option Node)) (sets : List ℕ) (marks : List Bool)
    : Type 0 where
  pub long : length marks ≡ length ns
  pub each : (d : ℕ) (id : Id) → place_of d ≡ Some id → mark marks id.0 ≡ true
      → Misses counts sets (λ p. holds counts ns d p)

-- the place of a diagram is marked
pub record IsMarkedAt (marks : List Bool) (d : ℕ) : Type 0 where
  pub id : Id
  pub at : place_of d ≡ Some id
  pub is : mark marks id.0 ≡ true

-- no place is marked but those that were, and that of a diagram
pub record MarksAt (marks marks' : List Bool) (d : ℕ) : Type 0 where
  pub long : length marks' ≡ length marks
  pub each : (n : ℕ) → mark marks' n ≡ true
      → (mark marks n ≡ true) ⊎ ((id : Id) × (place_of d ≡ Some id) × (id.0 ≡ n))

-- a node is the first of a diagram, and tests the variable
pub record TestsFirst (ns : List (Option Node)) (d var : ℕ) (n : Node) : Type 0 where
  pub at : node_at ns d ≡ Some n
  pub variable : n.test.var ≡ var

-- what the values of a variable that are left lead to, and that the others lead to no point that
-- fits
pub record LeadsTo (counts : List ℕ) (ns : List (Option Node)) (sets : List ℕ) (d var left rest : ℕ)
    : Type 0 where
  pub held : has_diagram ns rest ≡ true
  pub later : order var 0 ≤ first counts ns rest
  pub among : (x : ℕ) → has left x ≡ true → has (set_at sets var) x ≡ true
  pub there : (p : Point) → has left (p var) ≡ true → holds counts ns d p ≡ holds counts ns rest p
  pub gone : (p : Point) → Fits counts sets p → has left (p var) ≡ false
      → holds counts ns d p ≡ true → ⊥
