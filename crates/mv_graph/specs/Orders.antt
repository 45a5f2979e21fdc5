-- Orders of nets by number in which each stands behind its columns.
use Rattle.std.specs.Prelude.{◌≡◌, ℕ, true, nat_lt, List, length, take, slice_get, Some}
use Rattle.mv_base.specs.declared.number.NetId.{NetId}
use Rattle.mv_graph.specs.Nets.{has_id, row, all_differ}

-- each net of the list stands in the order once, and its columns stand before it
pub record IsSortedBy (columns : List (List NetId)) (order : List NetId) : Type 0 where
  pub members : (n : ℕ) → has_id order n ≡ nat_lt n (length columns)
  pub once : all_differ order ≡ true
  pub behind : (place : ℕ) (n : NetId) (m : ℕ) → slice_get order place ≡ Some n
      → has_id (row columns n.0) m ≡ true → has_id (take place order) m ≡ true
