-- A table of one output as covers: the cover of its output, and of the mark net that the cover
-- reads.
use Rattle.std.specs.Prelude.{◌≡◌, ℕ, Bool, false, ◌||◌, not, nat_eq, Option, Some, None, List, [], ◌∷◌, ◌++◌, length, map, filter, if◌then◌else◌, All}
use Rattle.std.specs.List.{list_any}
use Rattle.indexmap.specs.IndexSet.{insert_key}
use Rattle.mv_base.specs.Set.{empty, one, full}
use Rattle.mv_base.specs.declared.number.NetId.{NetId}
use Rattle.mv_cover.specs.Absorb.{firsts, some_bare}
use Rattle.mv_cover.specs.Equal.{line_eq}
use Rattle.mv_cover.specs.declared.line.Line.{Line}
use Rattle.mv_cover.specs.declared.cover.Cover.{Cover}
use Rattle.mv_design.specs.declared.table.Entry.{Entry}
use Rattle.mv_design.specs.declared.table.Entry.TheVariants.{Set, Same}
use Rattle.mv_design.specs.declared.table.Row.{Row}
use Rattle.mv_design.specs.declared.table.FileTable.{FileTable}
use Rattle.mv_rows.specs.declared.column.Column.{Column}
use Rattle.mv_rows.specs.declared.table.FlatTable.{FlatTable}
use Rattle.mv_rows.specs.Cubes.{FitRow}
use Rattle.mv_rows.specs.Lines.{AreJoined, EntryLines, FitEntry}

-- the entry of a single output
abbrev pub only_entry : List Entry → Entry
only_entry [] = Set empty
only_entry (e ∷ _) = e

-- a row with a set for each column and one entry
pub record IsRow (columns : List Column) (r : Row) : Type 0 where
  pub sets : FitRow columns r.ins
  pub single : length r.outs ≡ 1
  pub entry : FitEntry columns (only_entry r.outs)

-- a default of one entry
pub record IsDefault (columns : List Column) (entries : List Entry) : Type 0 where
  pub single : length entries ≡ 1
  pub entry : FitEntry columns (only_entry entries)

-- a table over these columns with one output
pub record IsTable (columns : List Column) (t : FileTable) : Type 0 where
  pub rows : All (IsRow columns) t.rows
  pub default : (entries : List Entry) → t.default ≡ Some entries → IsDefault columns entries

-- the lines of the rows, row after row
abbrev pub RowsLines : List Column → List Row → List Line → Type 0
RowsLines columns [] lines = lines ≡ []
RowsLines columns (r ∷ rows) lines =
    AreJoined (EntryLines columns r.ins (only_entry r.outs)) (RowsLines columns rows) lines

-- the line has an output
abbrev pub has_output : Line → Bool
has_output l = not (nat_eq l.out empty)

-- the lines that have an output, without those that are equal to an earlier one
abbrev pub kept : List Line → List Line
kept lines = firsts (filter has_output lines)

-- an entry that no value lies in
abbrev pub says_nothing : Entry → Bool
says_nothing (Set s) = nat_eq s empty
says_nothing (Same k) = false

-- the default, unless no value lies in its entry or some row has no literal
abbrev pub default_left : Option (List Entry) → List Line → Option Entry
default_left None lines = None
default_left (Some entries) lines = if says_nothing (only_entry entries)
    || some_bare lines then None else Some (only_entry entries)

-- the default that a cover can have beside the lines: a set, where each line has an output
abbrev pub plain_default : Entry → List Line → Option ℕ
plain_default (Set s) lines = if list_any (λ (l : Line). nat_eq l.out empty) lines then None
    else Some s
plain_default (Same k) lines = None

-- the line that gives 0 where this one's cube holds
abbrev pub mark_line : Line → Line
mark_line l = record { cube = l.cube; out = one 0 }

-- the mark's cover: 0 where some line's cube holds, each cube once, and 1 elsewhere
abbrev pub mark_cover : List Line → Cover
mark_cover lines = record { lines = firsts (map mark_line lines); default = Some (one 1) }

-- the columns with the mark behind them
abbrev pub with_mark : List Column → NetId → List Column
with_mark columns mark = columns ++ record { net = mark; count = 2 } ∷ []

-- the sets of a row of all inputs with the mark at 1
abbrev pub marked_sets : List Column → List ℕ
marked_sets columns = map (λ (c : Column). full c.count) columns ++ one 1 ∷ []

-- the table with the lines and, if there is one, a default that is a set
abbrev pub unmarked : List Line → Option ℕ → FlatTable
unmarked lines default =
    record { cover = record { lines = kept lines; default = default }; mark = None }

-- the table with the lines, and with the default as lines that read the mark
pub record IsMarked (columns : List Column) (mark : NetId) (lines : List Line) (entry : Entry)
    (flat : FlatTable) : Type 0 where
  pub added : List Line
  pub are : EntryLines (with_mark columns mark) (marked_sets columns) entry added
  pub cover_is : flat.cover ≡ record { lines = kept (lines ++ added); default = None }
  pub mark_is : flat.mark ≡ Some (mark_cover lines)

-- the table with a default that is left: as a set, if a cover can have it, and else by the mark
abbrev pub FlatBy : List Column → NetId → List Line → Entry → Option ℕ → FlatTable → Type 0
FlatBy columns mark lines entry None flat = IsMarked columns mark lines entry flat
FlatBy columns mark lines entry (Some s) flat = flat ≡ unmarked lines (Some s)

-- the table with the default that is left, if one is
abbrev pub FlatOf : List Column → NetId → List Line → Option Entry → FlatTable → Type 0
FlatOf columns mark lines None flat = flat ≡ unmarked lines None
FlatOf columns mark lines (Some entry) flat =
    FlatBy columns mark lines entry (plain_default entry lines) flat

-- the lines and the default of a table as they are written
pub record IsMade (columns : List Column) (t : FileTable) (mark : NetId) (flat : FlatTable)
    : Type 0 where
  pub lines : List Line
  pub are : RowsLines columns t.rows lines
  pub covers : FlatOf columns mark lines (default_left t.default lines) flat

-- ---- what private functions alone cite

-- the lines with one more, if it has an output and is new
abbrev pub insert_kept : List Line → Line → List Line
insert_kept lines l = if nat_eq l.out empty then lines else insert_key line_eq lines l
