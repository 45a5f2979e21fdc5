-- How lists of readers get readers and lose them. For private functions.
use Rattle.std.specs.Prelude.{◌≡◌, ℕ, ◌<◌, ◌≤◌, Bool, true, ◌&&◌, ◌||◌, not, nat_eq, List, length, take, drop}
use Rattle.std.specs.List.{list_any}
use Rattle.mv_base.specs.declared.number.NetId.{NetId}
use Rattle.mv_graph.specs.Nets.{has_id, row, ids_ascend}
use Rattle.mv_dag.specs.declared.new_rows.NewRow.{NewRow}

-- each list ascends
pub record AllAscend (rows : List (List NetId)) : Type 0 where
  pub each : (m : ℕ) → ids_ascend (row rows m) ≡ true

-- the number may come at this place: those before are below it, and those behind are above it
pub record IsGap (nets : List NetId) (place n : ℕ) : Type 0 where
  pub within : place ≤ length nets
  pub before : (m : ℕ) → has_id (take place nets) m ≡ true → m < n
  pub behind : (m : ℕ) → has_id (drop place nets) m ≡ true → n < m

-- i is the one net, and j the other
abbrev pub is_edge : ℕ → ℕ → ℕ → ℕ → Bool
is_edge n m i j = nat_eq n i && nat_eq m j

-- i is the net, and j one of its row
abbrev pub is_given_by : ℕ → List NetId → ℕ → ℕ → Bool
is_given_by n fanins i j = nat_eq n i && has_id fanins j

-- one of the rows is of net i, and has j
abbrev pub is_given : List NewRow → ℕ → ℕ → Bool
is_given rows i j = list_any (λ (r : NewRow). is_given_by r.net.0 r.fanins i j) rows

-- each reader of which the test says so is on the list
pub record HasAll (readers : List (List NetId)) (given : ℕ → ℕ → Bool) : Type 0 where
  pub each : (n m : ℕ) → given n m ≡ true → has_id (row readers m) n ≡ true

-- the lists have all readers that they had, and others only where the test says so
pub record IsGrown (old new : List (List NetId)) (given : ℕ → ℕ → Bool) : Type 0 where
  pub long : length new ≡ length old
  pub ascend : AllAscend new
  pub kept : (n m : ℕ) → has_id (row old m) n ≡ true → has_id (row new m) n ≡ true
  pub only : (n m : ℕ) → has_id (row new m) n ≡ true → (has_id (row old m) n || given n m) ≡ true

-- the lists have the readers that they had, but for those of which the test says that they go
pub record IsShrunk (old new : List (List NetId)) (gone : ℕ → ℕ → Bool) : Type 0 where
  pub long : length new ≡ length old
  pub ascend : AllAscend new
  pub left : (n m : ℕ) → has_id (row new m) n ≡ (has_id (row old m) n && not (gone n m))
