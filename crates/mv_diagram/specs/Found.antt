-- The nodes of a diagram: its first one, and those of the diagrams of its nodes.
use Rattle.std.specs.Prelude.{◌≡◌, ◌<◌, ◌+◌, ◌↔◌, ℕ, Bool, true, false, List, [], ◌∷◌, length, Option, Some, count_by, slice_index}
use Rattle.mv_pool.specs.Walks.{mark}
use Rattle.mv_pool.specs.declared.pool.Id.{Id}
use Rattle.mv_diagram.specs.declared.node.Dd.{Dd}
use Rattle.mv_diagram.specs.declared.node.Node.{Node}
use Rattle.mv_diagram.specs.Diagrams.{Contents, Reaches, has}
use Rattle.mv_diagram.specs.Links.{place_of}
use Rattle.mv_diagram.specs.Sets.{Point, has_diagram, node_at, with_value}

-- as many nodes as a list has marks, which marks the places of the diagrams that this one reaches
pub record IsSize (nodes : List (Option Node)) (a : Dd) (size : ℕ) : Type 0 where
  pub marks : List Bool
  pub marked : (d : ℕ) (id : Id) → place_of d ≡ Some id
      → (mark marks id.0 ≡ true) ↔ Reaches nodes (a ∷ []) d
  pub count : size ≡ count_by (λ b. b) marks

-- a diagram that it reaches has a node that tests the variable
pub record Tests (nodes : List (Option Node)) (a : Dd) (var : ℕ) : Type 0 where
  pub d : ℕ
  pub node : Node
  pub reached : Reaches nodes (a ∷ []) d
  pub at : node_at nodes d ≡ Some node
  pub tests : node.test.var ≡ var

-- whether a point is in a set doesn't hang on its value of the variable
pub record Ignores (set : Point → Bool) (var : ℕ) : Type 0 where
  pub each : (p : Point) (value : ℕ) → set (with_value p var value) ≡ set p

-- the variables that are marked are those that its nodes test, and it ignores all others
pub record AreTested (c : Contents) (a : Dd) (seen : List Bool) : Type 0 where
  pub tests : (v : ℕ) → mark seen v ≡ true → Tests c.nodes a v
  pub ignores : (v : ℕ) → mark seen v ≡ false → Ignores (λ p. has c a p) v

-- ---- what private functions alone cite

-- the places of its nodes, each once
pub record AreFound (nodes : List (Option Node)) (a : Dd) (found : List ℕ) : Type 0 where
  pub reached : (k : ℕ) → k < length found → Reaches nodes (a ∷ []) (slice_index found k + 2)
  pub all : (d : ℕ) (id : Id) → Reaches nodes (a ∷ []) d → place_of d ≡ Some id
      → (k : ℕ) × (k < length found) × (slice_index found k ≡ id.0)
  pub size : IsSize nodes a (length found)

-- these are places of nodes
pub record ArePlaced (nodes : List (Option Node)) (found : List ℕ) : Type 0 where
  pub each : (k : ℕ) → k < length found → has_diagram nodes (slice_index found k + 2) ≡ true

-- the variables that are marked are those that the nodes at the first places test
pub record AreSeen (nodes : List (Option Node)) (found : List ℕ) (count : ℕ) (seen : List Bool)
    : Type 0 where
  pub tests : (v : ℕ) → mark seen v ≡ true
      → (k : ℕ) × (n : Node) × (k < count) × (node_at nodes (slice_index found k + 2) ≡ Some n)
      × (n.test.var ≡ v)
  pub all : (k : ℕ) (n : Node) → k < count → node_at nodes (slice_index found k + 2) ≡ Some n
      → mark seen n.test.var ≡ true
