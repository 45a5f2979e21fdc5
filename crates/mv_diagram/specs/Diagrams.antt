-- What callers see of the diagrams.
use Rattle.std.specs.Prelude.{◌≡◌, ◌⊎◌, ◌≤◌, ℕ, Bool, true, List, length, Option, Some, All, slice_index_or}
use Rattle.mv_base.specs.declared.number.Value.{Value}
use Rattle.mv_pool.specs.Places.{held_in}
use Rattle.mv_diagram.specs.declared.node.Dd.{Dd}
use Rattle.mv_diagram.specs.declared.node.Node.{Node}
use Rattle.mv_diagram.specs.declared.node.Nodes.{Nodes}
use Rattle.mv_diagram.specs.Parts.{no_variable, IsRestriction}
use Rattle.mv_diagram.specs.Sets.{Point, InRange, SameSet, holds, has_diagram, node_at}

-- the numbers of values of the variables, the nodes at their places, how many there is room for,
-- and how often places were given back
pub record Contents : Type 0 where
  pub counts : List ℕ
  pub nodes : List (Option Node)
  pub cap : ℕ
  pub reclaims : ℕ

-- the diagram is held
pub record IsHeld (c : Contents) (d : Dd) : Type 0 where
  pub is : has_diagram c.nodes d.0 ≡ true

-- whether a point is in the set of a diagram
abbrev pub has : Contents → Dd → Point → Bool
has c d p = holds c.counts c.nodes d.0 p

-- the point with these values
abbrev pub point_of : List Value → Point
point_of values v = (slice_index_or values v (record { 0 = 0 })).0

-- it gives each variable one of its values
pub record IsPoint (counts : List ℕ) (values : List Value) : Type 0 where
  pub long : length values ≡ length counts
  pub range : InRange counts (point_of values)

-- the diagrams that were held are held, with their sets, and no place is gone
pub record Keeps (old new : Contents) : Type 0 where
  pub counts : new.counts ≡ old.counts
  pub cap : new.cap ≡ old.cap
  pub reclaims : new.reclaims ≡ old.reclaims
  pub places : length old.nodes ≤ length new.nodes
  pub held : (d : Dd) → IsHeld old d → IsHeld new d
  pub sets : (d : Dd) (p : Point) → IsHeld old d → has new d p ≡ has old d p

-- as many nodes are held as there is room for, and this number is told
pub record HasNoRoom (c : Contents) (stop : Nodes) : Type 0 where
  pub told : stop.cap ≡ c.cap
  pub full : c.cap ≤ held_in c.nodes

-- no diagram that is held has this set
pub record Lacks (c : Contents) (set : Point → Bool) : Type 0 where
  pub none : (d : Dd) → IsHeld c d → SameSet c.counts (λ p. has c d p) set → ⊥

-- a diagram is zero, one, a root, or one of the diagrams of their nodes: it is in each set of
-- numbers that has zero, one and the roots, and with a diagram those of its first node
abbrev pub Reaches : List (Option Node) → List Dd → ℕ → Type 0
Reaches nodes roots d = (set : ℕ → Bool) → set 0 ≡ true → set 1 ≡ true
    → All (λ (root : Dd). set root.0 ≡ true) roots
    → ((c : ℕ) (n : Node) → set c ≡ true → node_at nodes c ≡ Some n
    → (set n.yes.0 ≡ true) × (set n.no.0 ≡ true)) → set d ≡ true

-- what is held was held, with the same set
pub record Loses (old new : Contents) : Type 0 where
  pub counts : new.counts ≡ old.counts
  pub cap : new.cap ≡ old.cap
  pub held : (d : Dd) → IsHeld new d → IsHeld old d
  pub sets : (d : Dd) (p : Point) → IsHeld new d → has new d p ≡ has old d p

-- each diagram that is held now and wasn't has a restriction of the set
pub record AddsRestrictions (old new : Contents) (set : Point → Bool) : Type 0 where
  pub each : (d : Dd) → IsHeld new d
      → IsHeld old d ⊎ IsRestriction new.counts no_variable set (λ p. has new d p)
