-- What a table without `=` is like. For private functions.
use Rattle.std.specs.Prelude.{◌≡◌, ◌≤◌, false, Option, Some, List, length, All}
use Rattle.mv_base.specs.declared.limits.TheConstants.{MAX_VALUES}
use Rattle.mv_base.specs.declared.number.NetId.{NetId}
use Rattle.mv_design.specs.declared.table.FileTable.{FileTable}
use Rattle.mv_rows.specs.declared.column.Column.{Column}
use Rattle.mv_rows.specs.Cubes.{AreColumns}
use Rattle.mv_rows.specs.Flat.{IsTable, with_mark}
use Rattle.mv_rows.specs.Marked.{is_marked}
use Rattle.mv_joint.specs.Plain.{PlainTable}
use Rattle.mv_joint.specs.declared.plain.SplitTable.{SplitTable}
use Rattle.mv_joint.specs.Split.{IsFit}

-- columns, and a set for each of them in each row
pub record IsPlain (mark : NetId) (p : PlainTable) : Type 0 where
  pub columns : AreColumns p.columns
  pub with_mark : AreColumns (with_mark p.columns mark)
  pub rows : All (IsFit p.columns) p.rows

-- the same of a table whose rows are split, which has few rows of outputs
pub record IsSplit (mark : NetId) (f : SplitTable) : Type 0 where
  pub columns : AreColumns f.columns
  pub with_mark : AreColumns (with_mark f.columns mark)
  pub rows : All (IsFit f.columns) f.rows
  pub few : length f.choices.keys ≤ MAX_VALUES

-- a table of one output over these columns that needs no mark
pub record IsUnmarked (columns : List Column) (t : FileTable) : Type 0 where
  pub table : IsTable columns t
  pub unmarked : is_marked columns t ≡ false

-- the mark's table is such, if there is one
pub record IsMarkTable (columns : List Column) (m : Option FileTable) : Type 0 where
  pub each : (t : FileTable) → m ≡ Some t → IsUnmarked columns t
