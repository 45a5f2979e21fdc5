-- The nets of a list that are above themselves.
use Rattle.std.specs.Prelude.{◌≡◌, ℕ, true, Some, List, take, slice_get}
use Rattle.mv_base.specs.declared.number.NetId.{NetId}
use Rattle.mv_graph.specs.Nets.{has_id}
use Rattle.mv_graph.specs.Above.{IsAbove, reads_by}

-- none of these nets is above itself
pub record NoneTurns (columns : List (List NetId)) (nets : List NetId) : Type 0 where
  pub none : (n : ℕ) → has_id nets n ≡ true → IsAbove (reads_by columns) n n → ⊥

-- the net at this place of the list is above itself, and none before it is
pub record IsTurning (columns : List (List NetId)) (order : List NetId) (place : ℕ) : Type 0 where
  pub net : NetId
  pub at : slice_get order place ≡ Some net
  pub turns : IsAbove (reads_by columns) net.0 net.0
  pub first : NoneTurns columns (take place order)
