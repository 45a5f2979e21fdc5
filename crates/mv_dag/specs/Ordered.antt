-- Labels that fall from each net to those that it reads, and the orders that they give.
use Rattle.std.specs.Prelude.{◌≡◌, ℕ, ◌<◌, ◌%◌, ◌^◌, true, List, length, take, Some, slice_get, slice_index}
use Rattle.mv_base.specs.declared.number.NetId.{NetId}
use Rattle.mv_graph.specs.Nets.{all_differ, has_id, row}

-- the label of a number
abbrev pub at : List ℕ → ℕ → ℕ
at labels n = slice_index labels n

-- labels, each with an id of its own below their number, that fall from each net to what it reads
pub record IsOrdered (fanins : List (List NetId)) (labels : List ℕ) : Type 0 where
  pub long : length labels ≡ length fanins
  pub falls : (n m : ℕ) → has_id (row fanins n) m ≡ true → at labels m < at labels n
  pub low : (n : ℕ) → n < length labels → at labels n % 2 ^ 32 < length labels
  pub differ : (n m : ℕ) → n < length labels → m < length labels
      → at labels n % 2 ^ 32 ≡ at labels m % 2 ^ 32 → n ≡ m

-- each of the nets stands in the order once, and those of them that it reads stand before it
pub record IsOrderOf (fanins : List (List NetId)) (nets order : List NetId) : Type 0 where
  pub members : (n : ℕ) → has_id order n ≡ has_id nets n
  pub once : all_differ order ≡ true
  pub behind : (place : ℕ) (n : NetId) (m : ℕ) → slice_get order place ≡ Some n
      → has_id (row fanins n.0) m ≡ true → has_id nets m ≡ true
      → has_id (take place order) m ≡ true
