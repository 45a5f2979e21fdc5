-- What a row with `=` tells of its rows without.
use Rattle.std.specs.Prelude.{Bool, true, ◌&&◌, not, nat_eq, List}
use Rattle.std.specs.List.{list_all, list_any}
use Rattle.mv_design.specs.declared.table.Entry.{Entry}
use Rattle.mv_design.specs.declared.table.Entry.TheVariants.{Set, Same}
use Rattle.mv_design.specs.declared.table.Row.{Row}
use Rattle.mv_rows.specs.declared.column.Column.{Column}
use Rattle.mv_rows.specs.Lines.{count_at}
use Rattle.mv_rows.specs.Flat.{says_nothing}
use Rattle.mv_rows.specs.Marked.{matches_all, matches_none}

-- an entry leaves its row one row: the column that it names, if it names one, has one value
abbrev pub is_single : List Column → Entry → Bool
is_single columns (Set s) = true
is_single columns (Same k) = nat_eq (count_at columns k) 1

-- one of the row's rows matches everything: it does so itself, and the columns that it names have
-- one value
abbrev pub gives_bare : List Column → Row → Bool
gives_bare columns r = list_all (is_single columns) r.outs && matches_all columns r.ins

-- one of the row's rows matches something and says nothing of an output: it does so itself
abbrev pub gives_silent : List Column → Row → Bool
gives_silent columns r = list_any says_nothing r.outs && not (matches_none columns r.ins)
