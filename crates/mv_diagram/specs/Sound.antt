-- What is always true of the nodes: they are ordered, reduced and distinct.
use Rattle.std.specs.Prelude.{◌≡◌, ◌+◌, ◌*◌, ◌<◌, ◌≤◌, ℕ, true, List, length, Option, Some, is_some, slice_index}
use Rattle.std.specs.Option.{option_map_or}
use Rattle.mv_base.specs.declared.limits.TheConstants.{MAX_VALUES}
use Rattle.mv_pool.specs.Places.{item_at}
use Rattle.mv_diagram.specs.declared.node.Node.{Node}
use Rattle.mv_diagram.specs.declared.node.Test.{Test}
use Rattle.mv_diagram.specs.Sets.{SameSet, holds, has_diagram, node_at, with_value, greatest}

-- where a test stands in the order: by variable, then by value
abbrev pub order : ℕ → ℕ → ℕ
order var value = var * MAX_VALUES + value

-- where the first test of a diagram stands. Zero and one have no test: they stand behind all
abbrev pub first : List ℕ → List (Option Node) → ℕ → ℕ
first counts ns d =
    option_map_or (λ n. order n.test.var n.test.value) (node_at ns d) (length counts * MAX_VALUES)

-- a test of a variable for one of its values but the greatest, which is what is left when all tests
-- say no
pub record IsTest (counts : List ℕ) (t : Test) : Type 0 where
  pub variable : t.var < length counts
  pub value : t.value + 1 < slice_index counts t.var

-- the children are held; the one for yes tests later variables, and the one for no later values
-- too; and the set at this value isn't the set at the greatest value
pub record IsNode (counts : List ℕ) (ns : List (Option Node)) (n : Node) : Type 0 where
  pub test : IsTest counts n.test
  pub yes_held : has_diagram ns n.yes.0 ≡ true
  pub no_held : has_diagram ns n.no.0 ≡ true
  pub yes_later : order (n.test.var + 1) 0 ≤ first counts ns n.yes.0
  pub no_later : order n.test.var n.test.value < first counts ns n.no.0
  pub reduced
      : SameSet counts (λ p. holds counts ns n.yes.0 p)
      (λ p. holds counts ns n.no.0 (with_value p n.test.var (greatest counts n.test.var))) → ⊥

-- each variable has a value, and no more than a net may have
pub record AreCounts (counts : List ℕ) : Type 0 where
  pub some : (v : ℕ) → v < length counts → 0 < slice_index counts v
  pub few : (v : ℕ) → v < length counts → slice_index counts v ≤ MAX_VALUES

-- the nodes are ordered, reduced and distinct, and each variable has as many values as a net may
-- have
pub record IsReduced (counts : List ℕ) (ns : List (Option Node)) : Type 0 where
  pub values : AreCounts counts
  pub nodes : (place : ℕ) (n : Node) → item_at ns place ≡ Some n → IsNode counts ns n
  pub distinct : (i j : ℕ) (n : Node) → item_at ns i ≡ Some n → item_at ns j ≡ Some n → i ≡ j

-- no place is free, and the children of each node stand before it
pub record Ascends (ns : List (Option Node)) : Type 0 where
  pub filled : (place : ℕ) → place < length ns → is_some (item_at ns place) ≡ true
  pub earlier : (place : ℕ) (n : Node) → item_at ns place ≡ Some n
      → (n.yes.0 < place + 2) × (n.no.0 < place + 2)
