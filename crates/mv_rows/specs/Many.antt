-- A table whose cover has very many lines.
use Rattle.std.specs.Prelude.{ℕ, ◌<◌, List, length}
use Rattle.mv_base.specs.declared.number.NetId.{NetId}
use Rattle.mv_design.specs.declared.table.FileTable.{FileTable}
use Rattle.mv_rows.specs.declared.column.Column.{Column}
use Rattle.mv_rows.specs.declared.table.FlatTable.{FlatTable}
use Rattle.mv_rows.specs.declared.stop.RowStop.{RowStop}
use Rattle.mv_rows.specs.declared.stop.RowStop.TheVariants.{Many, Memory}
use Rattle.mv_rows.specs.Flat.{IsMade}

-- the cover of the table's output has more lines than so many
pub record HasMore (columns : List Column) (t : FileTable) (mark : NetId) (most : ℕ) : Type 0 where
  pub flat : FlatTable
  pub made : IsMade columns t mark flat
  pub many : most < length flat.cover.lines

-- why the covers of a table aren't made
abbrev pub StopsAt : List Column → FileTable → NetId → ℕ → RowStop → Type 0
StopsAt columns t mark most Many = HasMore columns t mark most
StopsAt columns t mark most Memory = Unit {0}
