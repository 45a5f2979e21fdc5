-- How a search goes: net by net of those found. For private functions.
use Rattle.std.specs.Prelude.{◌≡◌, ℕ, ◌<◌, Bool, true, ◌&&◌, nat_le, List, ◌++◌, Some, slice_get}
use Rattle.mv_base.specs.declared.number.NetId.{NetId}
use Rattle.mv_graph.specs.Nets.{has_id}
use Rattle.mv_dag.specs.Ordered.{at}
use Rattle.mv_dag.specs.Searches.{IsIn, IsReached}

-- the test that the label of x is between the two
abbrev pub is_in : List ℕ → ℕ → ℕ → ℕ → Bool
is_in labels low high x = nat_le low (at labels x) && nat_le (at labels x) high

-- nets that pass the test came behind the others, and each that passes is there
pub record HasGained (old new : List NetId) (passes : ℕ → Bool) : Type 0 where
  pub added : List NetId
  pub grown : new ≡ old ++ added
  pub each : (n : ℕ) → passes n ≡ true → has_id new n ≡ true
  pub only : (n : ℕ) → has_id added n ≡ true → passes n ≡ true

-- a search of a graph of so many nets, the steps from whose first nets found are done
pub record IsSearch (steps : ℕ → ℕ → Bool) (size : ℕ) (labels : List ℕ) (starts : List NetId)
    (low high : ℕ) (found : List NetId) (done : ℕ) : Type 0 where
  pub starts_in : (x : ℕ) → has_id starts x ≡ true → IsIn labels low high x → has_id found x ≡ true
  pub behind : (place y : ℕ) (x : NetId) → place < done → slice_get found place ≡ Some x
      → steps x.0 y ≡ true → IsIn labels low high y → has_id found y ≡ true
  pub inside : (x : ℕ) → has_id found x ≡ true → IsIn labels low high x
  pub reached : (x : ℕ) → has_id found x ≡ true → IsReached steps starts x
  pub small : (x : ℕ) → has_id found x ≡ true → x < size
