-- What a call leaves of the nodes.
use Rattle.std.specs.Prelude.{◌≡◌, ◌≤◌, ◌⊎◌, ℕ, Bool, true, List, length, Option, Some}
use Rattle.mv_pool.specs.Places.{Contents, item_at, held_in, with_item}
use Rattle.mv_diagram.specs.declared.node.Node.{Node}
use Rattle.mv_diagram.specs.declared.node.Nodes.{Nodes}
use Rattle.mv_diagram.specs.declared.table.Table.{Table}
use Rattle.mv_diagram.specs.Sets.{Point, SameSet, holds, has_diagram, node_at}
use Rattle.mv_diagram.specs.Sound.{Ascends, IsReduced}

-- each node stays where it is
pub record Grows (old new : List (Option Node)) : Type 0 where
  pub keeps : (place : ℕ) (n : Node) → item_at old place ≡ Some n → item_at new place ≡ Some n

-- nodes were added, if anything
pub record AddsNodes (old new : Table) : Type 0 where
  pub counts : new.counts ≡ old.counts
  pub cap : new.pool.cap ≡ old.pool.cap
  pub grows : Grows old.pool.places new.pool.places
  pub sound : IsReduced new.counts.items new.pool.places
  pub ascends : Ascends old.pool.places → Ascends new.pool.places
  pub longer : length old.pool.places ≤ length new.pool.places

-- the node stands nowhere
pub record IsAbsent (ns : List (Option Node)) (n : Node) : Type 0 where
  pub nowhere : (place : ℕ) → item_at ns place ≡ Some n → ⊥

-- the node stands at the place of this number: where it stood already, or at the least free place
pub record HasPut (old new : Contents Node) (n : Node) (d : ℕ) : Type 0 where
  pub there : node_at new.places d ≡ Some n
  pub cap : new.cap ≡ old.cap
  pub change : (new.places ≡ old.places)
      ⊎ ((new.places ≡ with_item old.places n) × IsAbsent old.places n)

-- no diagram that is held has this set
pub record IsLacking (counts : List ℕ) (ns : List (Option Node)) (set : Point → Bool) : Type 0 where
  pub none : (d : ℕ) → has_diagram ns d ≡ true → SameSet counts (λ p. holds counts ns d p) set → ⊥

-- there is no room for a node more
pub record IsFull (pool : Contents Node) (stop : Nodes) : Type 0 where
  pub told : stop.cap ≡ pool.cap
  pub full : pool.cap ≤ held_in pool.places
