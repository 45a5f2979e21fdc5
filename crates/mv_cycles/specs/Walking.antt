-- How the nets above a net are marked. For private functions.
use Rattle.std.specs.Prelude.{◌≡◌, ℕ, ◌<◌, true, false, ◌||◌, Some, List, [], ◌++◌, length, slice_get}
use Rattle.mv_base.specs.declared.number.NetId.{NetId}
use Rattle.mv_cycles.specs.declared.walk.Walk.{Walk}
use Rattle.mv_graph.specs.Nets.{has_id, row}
use Rattle.mv_graph.specs.Marks.{is_marked}
use Rattle.mv_graph.specs.Above.{IsAbove, reads_by}

-- these nets are marked besides, and those that are new are listed behind the others
pub record HasMarked (old new : Walk) (nets : List NetId) : Type 0 where
  pub long : length new.marks.items ≡ length old.marks.items
  pub marks : (k : ℕ) → is_marked new.marks.items k ≡ (is_marked old.marks.items k || has_id nets k)
  pub added : List NetId
  pub listed : new.listed.items ≡ old.listed.items ++ added
  pub only : (k : ℕ) → has_id added k ≡ true → has_id nets k ≡ true
  pub fresh : (k : ℕ) → is_marked new.marks.items k ≡ true → is_marked old.marks.items k ≡ false
      → has_id added k ≡ true

-- nothing is marked
pub record IsBlank (walk : Walk) (size : ℕ) : Type 0 where
  pub long : length walk.marks.items ≡ size
  pub marks : (k : ℕ) → is_marked walk.marks.items k ≡ false
  pub listed : walk.listed.items ≡ []

-- some nets above n are marked and listed, its columns among them, and so are the columns of the
-- first nets of the list
pub record IsWalk (columns : List (List NetId)) (n : ℕ) (walk : Walk) (done : ℕ) : Type 0 where
  pub long : length walk.marks.items ≡ length columns
  pub below : (k : ℕ) → has_id walk.listed.items k ≡ true → k < length columns
  pub first : (m : ℕ) → has_id (row columns n) m ≡ true → is_marked walk.marks.items m ≡ true
  pub behind : (place m : ℕ) (c : NetId) → place < done
      → slice_get walk.listed.items place ≡ Some c → has_id (row columns c.0) m ≡ true
      → is_marked walk.marks.items m ≡ true
  pub listed : (k : ℕ) → is_marked walk.marks.items k ≡ true → has_id walk.listed.items k ≡ true
  pub above : (k : ℕ) → has_id walk.listed.items k ≡ true → IsAbove (reads_by columns) k n
