-- The lines of a row, in their order.
use Rattle.std.specs.Prelude.{◌≡◌, ℕ, zero, suc, ◌<◌, List, [], ◌∷◌, ◌++◌, length, slice_index, slice_index_or, slice_set}
use Rattle.mv_base.specs.Set.{one, meet}
use Rattle.mv_cover.specs.declared.line.Line.{Line}
use Rattle.mv_design.specs.declared.table.Entry.{Entry}
use Rattle.mv_design.specs.declared.table.Entry.TheVariants.{Set, Same}
use Rattle.mv_rows.specs.declared.column.Column.{Column}
use Rattle.mv_rows.specs.Cubes.{HasNoPoint, IsRowCube}

-- lines of one kind, and lines of another kind behind them
pub record AreJoined (Before Here : List Line → Type 0) (lines : List Line) : Type 0 where
  pub before : List Line
  pub here : List Line
  pub are_before : Before before
  pub are_here : Here here
  pub joined : lines ≡ before ++ here

-- the line of a row's cube with this output
pub record IsRowLine (columns : List Column) (sets : List ℕ) (out : ℕ) (l : Line) : Type 0 where
  pub cube : IsRowCube columns sets l.cube
  pub out_is : l.out ≡ out

-- one line with this output, or none where the row matches nothing
abbrev pub OneLine : List Column → List ℕ → ℕ → List Line → Type 0
OneLine columns sets out [] = HasNoPoint columns sets
OneLine columns sets out (l ∷ []) = IsRowLine columns sets out l
OneLine columns sets out (_ ∷ _ ∷ _) = ⊥

-- the sets of a row that has the value v alone in the column at place k, if it has it there
abbrev pub narrowed : List ℕ → ℕ → ℕ → List ℕ
narrowed sets k v = slice_set sets k (meet (slice_index sets k) (one v))

-- for each value below n in turn, the line of the row with this value in the column at place k,
-- which is its output
abbrev pub EachValue : List Column → List ℕ → ℕ → ℕ → List Line → Type 0
EachValue columns sets k zero lines = lines ≡ []
EachValue columns sets k (suc v) lines =
    AreJoined (EachValue columns sets k v) (OneLine columns (narrowed sets k v) (one v)) lines

-- how many values the net of the column at place k has
abbrev pub count_at : List Column → ℕ → ℕ
count_at columns k = (slice_index_or columns k (record { net = record { 0 = 0 }; count = 0 })).count

-- the lines of a row with this entry
abbrev pub EntryLines : List Column → List ℕ → Entry → List Line → Type 0
EntryLines columns sets (Set s) lines = OneLine columns sets s lines
EntryLines columns sets (Same k) lines = EachValue columns sets k (count_at columns k) lines

-- the column that the entry names is one of the columns
abbrev pub FitEntry : List Column → Entry → Type 0
FitEntry columns (Set s) = Unit {0}
FitEntry columns (Same k) = k < length columns

-- ---- what private functions alone cite

-- the list with some lines behind it
pub record AddsLines (Here : List Line → Type 0) (old new : List Line) : Type 0 where
  pub here : List Line
  pub are : Here here
  pub joined : new ≡ old ++ here
