-- The columns of a table by ascending net, each with the place of its sets in the rows. For private
-- functions.
use Rattle.std.specs.Prelude.{◌≡◌, ℕ, ◌+◌, Bool, true, ◌&&◌, nat_le, List, [], ◌∷◌, slice_index}
use Rattle.std.specs.List.Sorted.{IsPermutation}
use Rattle.mv_rows.specs.declared.column.Column.{Column}
use Rattle.mv_rows.specs.declared.column.Placed.{Placed}

-- columns with their places, from place k on
abbrev pub placed : ℕ → List Column → List Placed
placed k [] = []
placed k (c ∷ cs) = record { column = c; place = k } ∷ placed (k + 1) cs

-- the nets are n or later ones, and none is before an earlier column's
abbrev pub rises_after : ℕ → List Placed → Bool
rises_after n [] = true
rises_after n (p ∷ ps) = nat_le n p.column.net.0 && rises_after p.column.net.0 ps

-- the columns in an order in which their nets ascend
pub record IsColumnOrder (columns : List Column) (order : List Placed) : Type 0 where
  pub moved : IsPermutation (placed 0 columns) order
  pub rises : rises_after 0 order ≡ true

-- the set of a column in a row
abbrev pub set_at : List ℕ → Placed → ℕ
set_at sets p = slice_index sets p.place
