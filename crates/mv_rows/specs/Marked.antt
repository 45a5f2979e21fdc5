-- Which tables get a mark, told from their rows and their default.
use Rattle.std.specs.Prelude.{ℕ, Bool, true, false, ◌&&◌, not, nat_eq, Option, Some, None, List, [], ◌∷◌, if◌then◌else◌}
use Rattle.std.specs.List.{list_all, list_any, range_with_len}
use Rattle.mv_base.specs.Set.{empty, full, meet}
use Rattle.mv_design.specs.declared.table.Entry.{Entry}
use Rattle.mv_design.specs.declared.table.Entry.TheVariants.{Set, Same}
use Rattle.mv_design.specs.declared.table.Row.{Row}
use Rattle.mv_design.specs.declared.table.FileTable.{FileTable}
use Rattle.mv_rows.specs.declared.column.Column.{Column}
use Rattle.mv_rows.specs.Lines.{narrowed, count_at}
use Rattle.mv_rows.specs.Flat.{only_entry, says_nothing}

-- of some values of net n, those that a row leaves it: they lie in the set of each column of the
-- net
abbrev pub values_left : List Column → List ℕ → ℕ → ℕ → ℕ
values_left [] sets n values = values
values_left (c ∷ columns) [] n values = values
values_left (c ∷ columns) (s ∷ sets) n values =
    values_left columns sets n (if nat_eq c.net.0 n then meet values s else values)

-- a row leaves the net of a column all of its values
abbrev pub leaves_all : List Column → List ℕ → Column → Bool
leaves_all columns sets c = nat_eq (values_left columns sets c.net.0 (full c.count)) (full c.count)

-- a row leaves the net of a column no value
abbrev pub leaves_none : List Column → List ℕ → Column → Bool
leaves_none columns sets c = nat_eq (values_left columns sets c.net.0 (full c.count)) empty

-- a row matches everything: it leaves the net of each column all of its values
abbrev pub matches_all : List Column → List ℕ → Bool
matches_all columns sets = list_all (leaves_all columns sets) columns

-- a row matches nothing: it leaves the net of some column no value
abbrev pub matches_none : List Column → List ℕ → Bool
matches_none columns sets = list_any (leaves_none columns sets) columns

-- a row gives a line without literals: it matches everything, with some value alone in the column
-- that its entry names, if it names one
abbrev pub is_bare : List Column → List ℕ → Entry → Bool
is_bare columns sets (Set s) = matches_all columns sets
is_bare columns sets (Same k) =
    list_any (λ v. matches_all columns (narrowed sets k v)) (range_with_len 0 (count_at columns k))

-- some row gives a line without literals
abbrev pub some_row_bare : List Column → List Row → Bool
some_row_bare columns rows = list_any (λ (r : Row). is_bare columns r.ins (only_entry r.outs)) rows

-- a row takes the default away and gives no value: it matches something, and no value lies in its
-- entry
abbrev pub is_silent : List Column → Row → Bool
is_silent columns r = says_nothing (only_entry r.outs) && not (matches_none columns r.ins)

-- a default can't stand as a set: it names a column, or some row takes it away and gives no value
abbrev pub needs_mark : List Column → List Row → Entry → Bool
needs_mark columns rows (Set s) = list_any (is_silent columns) rows
needs_mark columns rows (Same k) = true

-- there is a default that is left, and it can't stand as a set
abbrev pub default_marked : List Column → List Row → Option (List Entry) → Bool
default_marked columns rows None = false
default_marked columns rows (Some entries) =
    not (says_nothing (only_entry entries)) && not (some_row_bare columns rows)
    && needs_mark columns rows (only_entry entries)

-- the table gets a mark
unfoldable pub is_marked : List Column → FileTable → Bool
is_marked columns t = default_marked columns t.rows t.default
