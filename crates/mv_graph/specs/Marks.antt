-- Marks of nets by number.
use Rattle.std.specs.Prelude.{◌≡◌, ℕ, Bool, true, false, List, length, slice_index_or}
use Rattle.mv_base.specs.declared.number.NetId.{NetId}
use Rattle.mv_graph.specs.Nets.{has_id, row}
use Rattle.mv_graph.specs.Above.{IsAbove, reads_by}

-- the number is marked
abbrev pub is_marked : List Bool → ℕ → Bool
is_marked marks n = slice_index_or marks n false

-- the marks are those of the nets above n
pub record AreAbove (columns : List (List NetId)) (n : ℕ) (marks : List Bool) : Type 0 where
  pub long : length marks ≡ length columns
  pub first : (m : ℕ) → has_id (row columns n) m ≡ true → is_marked marks m ≡ true
  pub closed : (k m : ℕ) → is_marked marks k ≡ true → has_id (row columns k) m ≡ true
      → is_marked marks m ≡ true
  pub above : (k : ℕ) → is_marked marks k ≡ true → IsAbove (reads_by columns) k n
