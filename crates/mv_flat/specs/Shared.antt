-- Which tables of the whole have the rows of which table of the design. For private functions.
use Rattle.std.specs.Prelude.{◌≡◌, ℕ, zero, suc, ◌+◌, false, Some, List, [], ◌∷◌, length, slice_get, slice_index_or}
use Rattle.std.specs.List.{range_with_len}
use Rattle.mv_design.specs.declared.design.FileModel.{FileModel}
use Rattle.mv_design.specs.declared.table.FileTable.{FileTable}
use Rattle.mv_design.specs.Nets.{no_model}
use Rattle.mv_flat.specs.Size.{gives_reset}
use Rattle.mv_flat.specs.declared.shared.SharedTables.{SharedTables}

-- a table has the rows and the default of another, and as many outputs
pub record HasRowsOf (t other : FileTable) : Type 0 where
  pub outputs : length t.outputs ≡ length other.outputs
  pub rows : t.rows ≡ other.rows
  pub default : t.default ≡ other.default

-- a table of the whole has the rows of the one that it comes from by its line, if it isn't that of
-- a reset net
abbrev pub IsFrom : SharedTables → FileTable → Type 0
IsFrom s t = gives_reset t ≡ false → (k : ℕ) (f : FileTable)
    → slice_get s.origins.items t.line ≡ Some k
    → slice_get s.tables.items k ≡ Some f → HasRowsOf t f

-- each table that comes from another still does
abbrev pub KeepsOrigins : SharedTables → SharedTables → Type 0
KeepsOrigins old new = (t : FileTable) → IsFrom old t → IsFrom new t

-- how many tables there are before a model's, behind n others
abbrev pub first_at : ℕ → List FileModel → ℕ → ℕ
first_at n [] k = n
first_at n (m ∷ ms) zero = n
first_at n (m ∷ ms) (suc k) = first_at (n + length m.tables) ms k

-- for each model how many tables there are before its own, behind n others
abbrev pub firsts_from : ℕ → List FileModel → List ℕ
firsts_from n [] = []
firsts_from n (m ∷ ms) = n ∷ firsts_from (n + length m.tables) ms

-- the numbers of a model's tables among those of all models
abbrev pub origins_of : List FileModel → ℕ → List ℕ
origins_of ms k =
    range_with_len (first_at 0 ms k) (length (slice_index_or ms k no_model).tables)
