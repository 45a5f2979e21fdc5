-- What is kept of a table: its covers for columns and a mark, and what a look at all rows tells.
use Rattle.std.specs.Prelude.{◌≡◌, ℕ, Bool, IfSome, List, All, Option}
use Rattle.std.specs.declared.vec.Vec.{Vec}
use Rattle.std.specs.declared.alloc.Global.{Global}
use Rattle.mv_base.specs.declared.number.NetId.{NetId}
use Rattle.mv_design.specs.declared.table.FileTable.{FileTable}
use Rattle.mv_rows.specs.declared.column.Column.{Column}
use Rattle.mv_rows.specs.declared.table.FlatTable.{FlatTable}
use Rattle.mv_rows.specs.Flat.{IsMade}
use Rattle.mv_shapes.specs.declared.full.FullRows.{FullRows}
use Rattle.mv_shapes.specs.Distinct.{StandsFor}
use Rattle.mv_shapes.specs.Rows.{some_silent, IsFullOf}
use Rattle.mv_shapes.specs.Shape.{coded}

-- the covers of the table over the columns and with the mark that the key stands for
pub record IsKept (t : FileTable) (key : List ℕ) (flat : FlatTable) : Type 0 where
  pub made : (columns : List Column) (mark : NetId) → coded columns mark ≡ key
      → IsMade columns t mark flat

-- all covers that a map holds are such
abbrev pub AreKept : FileTable → List (Vec ℕ Global × FlatTable) → Type 0
AreKept t entries = All (λ (e : Vec ℕ Global × FlatTable). IsKept t e.0.items e.1) entries

-- all that is kept of a table holds of it
pub record IsKnown (t stand_in : FileTable) (entries : List (Vec ℕ Global × FlatTable)) (silent : Bool)
    (full : Option FullRows) : Type 0 where
  pub stands : StandsFor stand_in t
  pub covers : AreKept t entries
  pub silent_is : silent ≡ some_silent t.rows
  pub full_is : IfSome full (IsFullOf t.rows)
