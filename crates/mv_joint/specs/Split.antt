-- The rows of a table with a set for each output: where a row names columns by `=`, one for each
-- choice of their values.
use Rattle.std.specs.Prelude.{ℕ, Bool, not, List, [], ◌∷◌, ◌++◌, slice_index, slice_set, filter, if◌then◌else◌}
use Rattle.std.specs.List.{flat_map, range_with_len}
use Rattle.mv_base.specs.Set.{has, one}
use Rattle.mv_design.specs.declared.table.Entry.{Entry}
use Rattle.mv_design.specs.declared.table.Entry.TheVariants.{Set, Same}
use Rattle.mv_design.specs.declared.table.Row.{Row}
use Rattle.mv_rows.specs.declared.column.Column.{Column}
use Rattle.mv_rows.specs.Cubes.{FitRow}
use Rattle.mv_rows.specs.Lines.{count_at}
use Rattle.mv_rows.specs.Marked.{matches_none}
use Rattle.mv_joint.specs.declared.split.PlainRow.{PlainRow}

-- a row that has the value v in the column at place k: with this value alone there and as the set
-- of one output more
abbrev pub narrowing : ℕ → PlainRow → ℕ → List PlainRow
narrowing k r v =
    if has (slice_index r.ins k) v then record {
      ins = slice_set r.ins k (one v);
      outs = r.outs
          ++ one v ∷ [];
    } ∷ [] else []

-- the rows of a row with one entry more: one with its set, or one for each value of the column that
-- it names, ascending
abbrev pub extended : List Column → Entry → PlainRow → List PlainRow
extended columns (Set s) r = record { ins = r.ins; outs = r.outs ++ s ∷ [] } ∷ []
extended columns (Same k) r = flat_map (narrowing k r) (range_with_len 0 (count_at columns k))

-- the rows of rows with these entries more, so that the values of the first entry vary slowest
abbrev pub split : List Column → List Entry → List PlainRow → List PlainRow
split columns [] rows = rows
split columns (e ∷ es) rows = split columns es (flat_map (extended columns e) rows)

-- the row matches something: it leaves no net without values
abbrev pub is_possible : List Column → PlainRow → Bool
is_possible columns r = not (matches_none columns r.ins)

-- the rows with these sets and these entries that match something
abbrev pub rows_of : List Column → List ℕ → List Entry → List PlainRow
rows_of columns ins entries =
    filter (is_possible columns) (split columns entries (record { ins = ins; outs = [] } ∷ []))

-- the rows of all rows
abbrev pub all_rows : List Column → List Row → List PlainRow
all_rows columns rows = flat_map (λ (r : Row). rows_of columns r.ins r.outs) rows

-- a row has a set for each column
pub record IsFit (columns : List Column) (r : PlainRow) : Type 0 where
  pub sets : FitRow columns r.ins
