-- What a look at a row's entry tells of its lines. For private functions.
use Rattle.std.specs.Prelude.{Bool, true, nat_eq, List}
use Rattle.mv_design.specs.declared.table.Entry.{Entry}
use Rattle.mv_design.specs.declared.table.Entry.TheVariants.{Set, Same}
use Rattle.mv_rows.specs.declared.column.Column.{Column}
use Rattle.mv_rows.specs.Lines.{count_at}

-- an entry gives its row one line: the column that it names, if it names one, has one value
abbrev pub is_single : List Column → Entry → Bool
is_single columns (Set s) = true
is_single columns (Same k) = nat_eq (count_at columns k) 1
