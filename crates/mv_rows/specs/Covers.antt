-- What the covers of a table mean, and when they are well formed.
use Rattle.std.specs.Prelude.{◌≡◌, ℕ, ◌≤◌, true, nat_eq, Option, Some, None, List, [], ◌∷◌, if◌then◌else◌, All}
use Rattle.mv_base.specs.Set.{full, Within}
use Rattle.mv_base.specs.declared.number.NetId.{NetId}
use Rattle.mv_cover.specs.Cubes.{IsCube}
use Rattle.mv_cover.specs.Covers.{allowed}
use Rattle.mv_cover.specs.Lines.{IsOutput, lines_differ}
use Rattle.mv_cover.specs.Absorb.{some_bare}
use Rattle.mv_cover.specs.declared.line.Line.{Line}
use Rattle.mv_cover.specs.declared.cover.Cover.{Cover}
use Rattle.mv_design.specs.declared.table.Entry.{Entry}
use Rattle.mv_design.specs.declared.table.Entry.TheVariants.{Set, Same}
use Rattle.mv_design.specs.declared.table.Row.{Row}
use Rattle.mv_design.specs.declared.table.FileTable.{FileTable}
use Rattle.mv_rows.specs.declared.column.Column.{Column}
use Rattle.mv_rows.specs.declared.table.FlatTable.{FlatTable}
use Rattle.mv_design.specs.Tables.{some_row_matches, table_allows}
use Rattle.mv_rows.specs.Cubes.{column_values, in_range, CountBy, AreParts}
use Rattle.mv_rows.specs.Lines.{count_at}
use Rattle.mv_rows.specs.Flat.{only_entry}

-- a line over nets with these numbers of values, whose output is some of the output net's
pub record IsTableLine (count : ℕ → ℕ) (values : ℕ) (l : Line) : Type 0 where
  pub cube : IsCube l.cube
  pub parts : AreParts count l.cube
  pub out : IsOutput values l.out

-- a cover over such nets: its lines are such and all different, and there is no default beside a
-- line without literals
pub record IsTableCover (count : ℕ → ℕ) (values : ℕ) (c : Cover) : Type 0 where
  pub lines : All (IsTableLine count values) c.lines
  pub differ : lines_differ c.lines ≡ true
  pub default : (set : ℕ) → c.default ≡ Some set → IsOutput values set
  pub met : some_bare c.lines ≡ true → c.default ≡ None

-- an entry says values of an output net that has this many
abbrev pub FitOutput : List Column → ℕ → Entry → Type 0
FitOutput columns values (Set s) = Within s (full values)
FitOutput columns values (Same k) = count_at columns k ≤ values

-- the entry of each row, and that of the default, say values of an output net that has this many
pub record FitOutputs (columns : List Column) (values : ℕ) (t : FileTable) : Type 0 where
  pub rows : All (λ (r : Row). FitOutput columns values (only_entry r.outs)) t.rows
  pub default : (entries : List Entry) → t.default ≡ Some entries
      → FitOutput columns values (only_entry entries)

-- the mark is 0 where some row matches, and 1 elsewhere
abbrev pub mark_value : List Row → List ℕ → ℕ
mark_value rows values = if some_row_matches rows values then 0 else 1

-- there is no mark, or this is so of its net
abbrev pub MarkHas : Option Cover → NetId → (ℕ → ℕ) → ℕ → Type 0
MarkHas None mark of n = Unit {0}
MarkHas (Some _) mark of n = of mark.0 ≡ n

-- the cover of the output, with the mark at the value that the mark's cover gives, allows what the
-- table allows
pub record IsFlatTable (columns : List Column) (t : FileTable) (mark : NetId) (flat : FlatTable)
    : Type 0 where
  pub allows : (at : ℕ → ℕ) → in_range at columns ≡ true
      → MarkHas flat.mark mark at (mark_value t.rows (column_values at columns)) → (v : ℕ)
      → allowed flat.cover at v ≡ table_allows t.rows t.default (column_values at columns) (v ∷ [])
  pub marks : (m : Cover) → flat.mark ≡ Some m → (at : ℕ → ℕ) → in_range at columns ≡ true → (v : ℕ)
      → allowed m at v ≡ nat_eq v (mark_value t.rows (column_values at columns))
  pub formed : (count : ℕ → ℕ) → CountBy count columns → MarkHas flat.mark mark count 2
      → (values : ℕ) → FitOutputs columns values t
      → IsTableCover count values flat.cover
  pub mark_formed : (m : Cover) → flat.mark ≡ Some m → (count : ℕ → ℕ) → CountBy count columns
      → IsTableCover count 2 m
