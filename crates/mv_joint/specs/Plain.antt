-- A table of several outputs without `=`: each row matches something and says some values of each
-- output. Where a default can't stand as sets, it is a row that reads a mark.
use Rattle.std.specs.Prelude.{◌≡◌, ℕ, Bool, true, false, ◌&&◌, ◌||◌, not, nat_eq, Option, Some, None, List, [], ◌∷◌, ◌++◌, length, map, filter, if◌then◌else◌, All}
use Rattle.std.specs.List.{list_any}
use Rattle.mv_base.specs.Set.{empty, one, full}
use Rattle.mv_base.specs.declared.number.NetId.{NetId}
use Rattle.mv_design.specs.declared.table.Entry.{Entry}
use Rattle.mv_design.specs.declared.table.Entry.TheVariants.{Set, Same}
use Rattle.mv_design.specs.declared.table.Row.{Row}
use Rattle.mv_design.specs.declared.table.FileTable.{FileTable}
use Rattle.mv_rows.specs.declared.column.Column.{Column}
use Rattle.mv_rows.specs.Cubes.{AreColumns, FitRow}
use Rattle.mv_rows.specs.Lines.{FitEntry}
use Rattle.mv_rows.specs.Flat.{says_nothing, with_mark, marked_sets}
use Rattle.mv_rows.specs.Marked.{matches_all}
use Rattle.mv_joint.specs.declared.split.PlainRow.{PlainRow}
use Rattle.mv_joint.specs.Split.{rows_of, all_rows}

-- a table without `=`, and the table of the mark that it reads, if it reads one
pub record PlainTable : Type 0 where
  pub columns : List Column
  pub rows : List PlainRow
  pub default : Option (List ℕ)
  pub mark : Option FileTable

-- a set for each column and an entry for each of so many outputs
pub record IsJointRow (columns : List Column) (outputs : ℕ) (r : Row) : Type 0 where
  pub sets : FitRow columns r.ins
  pub several : length r.outs ≡ outputs
  pub entries : All (FitEntry columns) r.outs

-- an entry for each of so many outputs
pub record IsJointDefault (columns : List Column) (outputs : ℕ) (entries : List Entry)
    : Type 0 where
  pub several : length entries ≡ outputs
  pub fit : All (FitEntry columns) entries

-- a table over these columns
pub record IsJointFile (columns : List Column) (t : FileTable) : Type 0 where
  pub rows : All (IsJointRow columns (length t.outputs)) t.rows
  pub default : (entries : List Entry) → t.default ≡ Some entries
      → IsJointDefault columns (length t.outputs) entries

-- a mark and a choice net for a table over these columns: the mark has two values beside them, and
-- the choice net is the net of none of them nor the mark
pub record AreApart (columns : List Column) (mark choice : NetId) : Type 0 where
  pub inputs : AreColumns columns
  pub marked : AreColumns (with_mark columns mark)
  pub chosen : list_any (λ (c : Column). nat_eq c.net.0 choice.0) (with_mark columns mark) ≡ false

-- some output has no value in the row
abbrev pub is_silent : PlainRow → Bool
is_silent r = list_any (λ s. nat_eq s empty) r.outs

-- the rows that say some values of each output
abbrev pub said : List PlainRow → List PlainRow
said rows = filter (λ (r : PlainRow). not (is_silent r)) rows

-- some row matches everything
abbrev pub some_bare : List Column → List PlainRow → Bool
some_bare columns rows = list_any (λ (r : PlainRow). matches_all columns r.ins) rows

-- a default stays: a value lies in each of its entries, and no row matches everything
abbrev pub stays : List Column → List PlainRow → List Entry → Bool
stays columns rows entries = not (list_any says_nothing entries) && not (some_bare columns rows)

-- an entry names a column
abbrev pub is_same : Entry → Bool
is_same (Set s) = false
is_same (Same k) = true

-- a default that stays can't stand as sets: an entry names a column, or some row takes it away and
-- says nothing of an output
abbrev pub needs_mark : List PlainRow → List Entry → Bool
needs_mark rows entries = list_any is_same entries || list_any is_silent rows

-- the set of an entry that is one
abbrev pub set_of : Entry → ℕ
set_of (Set s) = s
set_of (Same k) = empty

-- the row where the mark has any value
abbrev pub with_any_mark : PlainRow → PlainRow
with_any_mark r = record { ins = r.ins ++ full 2 ∷ []; outs = r.outs }

-- the row that gives the mark 0
abbrev pub mark_row : PlainRow → Row
mark_row r = record { ins = r.ins; outs = Set (one 0) ∷ [] }

-- the mark's table: 0 where some row matches, and 1 elsewhere
abbrev pub mark_table : List PlainRow → FileTable
mark_table rows =
    record {
      line = 0;
      inputs = [];
      outputs = [];
      rows = map mark_row rows;
      default = Some (Set (one 1) ∷ []);
    }

-- the table with these rows, and with this default if there is one
abbrev pub unmarked : List Column → List PlainRow → Option (List ℕ) → PlainTable
unmarked columns rows default =
    record { columns = columns; rows = said rows; default = default; mark = None }

-- the table with these rows, and with the default as rows that have the mark at 1
abbrev pub marked : List Column → NetId → List PlainRow → List Entry → PlainTable
marked columns mark rows entries = record {
  columns = with_mark columns mark;
  rows = map with_any_mark (said rows)
      ++ rows_of (with_mark columns mark) (marked_sets columns) entries;
  default = None;
  mark = Some (mark_table rows);
}

-- the table with these rows and this default
abbrev pub plain_by : List Column → NetId → List PlainRow → Option (List Entry) → PlainTable
plain_by columns mark rows None = unmarked columns rows None
plain_by columns mark rows (Some entries) =
    if not (stays columns rows entries) then unmarked columns rows None
    else if needs_mark rows entries then marked columns mark rows entries
    else unmarked columns rows (Some (map set_of entries))

-- a table of a file without `=`
abbrev pub plain_of : List Column → FileTable → NetId → PlainTable
plain_of columns t mark = plain_by columns mark (all_rows columns t.rows) t.default

-- there is a default that stays, and it can't stand as sets
abbrev pub default_marked : List Column → List PlainRow → Option (List Entry) → Bool
default_marked columns rows None = false
default_marked columns rows (Some entries) = stays columns rows entries && needs_mark rows entries

-- the table gets a mark
unfoldable pub is_joint_marked : List Column → FileTable → Bool
is_joint_marked columns t = default_marked columns (all_rows columns t.rows) t.default

-- the table of the mark, if the table gets one
abbrev pub mark_of : List Column → FileTable → Option FileTable
mark_of columns t = if is_joint_marked columns t then Some (mark_table (all_rows columns t.rows))
    else None
