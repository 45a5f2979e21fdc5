-- What holds of nets while they are put in an order in which each stands behind its columns. For
-- private functions.
use Rattle.std.specs.Prelude.{◌≡◌, ℕ, ◌+◌, ◌<◌, ◌≤◌, true, List, [], ◌∷◌, ◌++◌, length, slice_index, slice_index_or, slice_set}
use Rattle.mv_base.specs.declared.number.NetId.{NetId}
use Rattle.mv_graph.specs.declared.sorting.Sorting.{Sorting}
use Rattle.mv_graph.specs.Nets.{has_id, row}

-- the number of the net at place k
abbrev pub net_at : List NetId → ℕ → ℕ
net_at nets k = let none : NetId = record { 0 = 0 } in (slice_index_or nets k none).0

-- the place of net n in the order, from 1, and 0 where it has none
abbrev pub rank_in : Sorting → ℕ → ℕ
rank_in s n = slice_index s.ranks.items n

-- the nets that wait for net m
abbrev pub waiters : Sorting → ℕ → List NetId
waiters s m = row s.waiting m

-- the order is one in which each net stands behind its columns, and the lists speak of its nets
pub record IsSorting (columns : List (List NetId)) (s : Sorting) : Type 0 where
  pub ranks : length s.ranks.items ≡ length columns
  pub passes : length s.passed.items ≡ length columns
  pub lists : length s.waiting ≡ length columns
  pub has : (n m : ℕ) → 0 < rank_in s n → has_id (row columns n) m ≡ true → 0 < rank_in s m
  pub falls : (n m : ℕ) → 0 < rank_in s n → has_id (row columns n) m ≡ true
      → rank_in s m < rank_in s n
  pub small : (n : ℕ) → rank_in s n ≤ length s.order.items
  pub found : (n k : ℕ) → rank_in s n ≡ k + 1 → net_at s.order.items k ≡ n
  pub stands : (k : ℕ) → k < length s.order.items → rank_in s (net_at s.order.items k) ≡ k + 1
  pub within : (k : ℕ) → k < length s.order.items → net_at s.order.items k < length columns
  pub known : (n k : ℕ) → k < slice_index s.passed.items n
      → 0 < rank_in s (net_at (row columns n) k)
  pub nets : (m n : ℕ) → has_id (waiters s m) n ≡ true → n < length columns

-- net n waits for a column that isn't among the first i nets of the order
pub record Waits (columns : List (List NetId)) (s : Sorting) (i n : ℕ) : Type 0 where
  pub above : ℕ
  pub column : has_id (row columns n) above ≡ true
  pub listed : has_id (waiters s above) n ≡ true
  pub later : 0 < rank_in s above → i < rank_in s above

-- net n is in the order, or waits for a column that isn't among the first i nets of it
pub record IsPlaced (columns : List (List NetId)) (s : Sorting) (i n : ℕ) : Type 0 where
  pub waits : rank_in s n ≡ 0 → Waits columns s i n

-- each of the first so many nets is in the order, or waits for a column that isn't among the first
-- i nets of it
pub record ArePlaced (columns : List (List NetId)) (s : Sorting) (i count : ℕ) : Type 0 where
  pub sorting : IsSorting columns s
  pub inside : i ≤ length s.order.items
  pub placed : (n : ℕ) → n < count → IsPlaced columns s i n

-- a net waits for another, behind the columns that it has passed
pub record HasWaited (s t : Sorting) (net : NetId) (place : ℕ) (above : NetId) : Type 0 where
  pub ranks : t.ranks.items ≡ s.ranks.items
  pub passed : t.passed.items ≡ slice_set s.passed.items net.0 place
  pub waiting : t.waiting ≡ slice_set s.waiting above.0 (waiters s above.0 ++ net ∷ [])
  pub order : t.order.items ≡ s.order.items

-- a net is the next of the order
pub record HasFinished (s t : Sorting) (net : NetId) : Type 0 where
  pub ranks : t.ranks.items ≡ slice_set s.ranks.items net.0 (length s.order.items + 1)
  pub passed : t.passed.items ≡ s.passed.items
  pub waiting : t.waiting ≡ s.waiting
  pub order : t.order.items ≡ s.order.items ++ net ∷ []

-- no net waits for this one any more
pub record HasReleased (s t : Sorting) (net : NetId) : Type 0 where
  pub ranks : t.ranks.items ≡ s.ranks.items
  pub passed : t.passed.items ≡ s.passed.items
  pub waiting : t.waiting ≡ slice_set s.waiting net.0 []
  pub order : t.order.items ≡ s.order.items

-- these nets are placed, and those that were placed still are
pub record HasLooked (columns : List (List NetId)) (s t : Sorting) (nets : List NetId)
    : Type 0 where
  pub sorting : IsSorting columns t
  pub longer : length s.order.items ≤ length t.order.items
  pub stays : (i n : ℕ) → i ≤ length s.order.items → IsPlaced columns s i n → IsPlaced columns t i n
  pub placed : (i n : ℕ) → i ≤ length s.order.items → has_id nets n ≡ true → IsPlaced columns t i n
