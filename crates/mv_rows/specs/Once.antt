-- Lines that are put together one after the other, each once, as long as there is room.
use Rattle.std.specs.Prelude.{◌≡◌, ℕ, ◌+◌, ◌<◌, true, List, [], length, filter}
use Rattle.indexmap.specs.IndexSet.{insert_all}
use Rattle.mv_cover.specs.Absorb.{firsts}
use Rattle.mv_cover.specs.Equal.{line_eq}
use Rattle.mv_cover.specs.declared.line.Line.{Line}
use Rattle.mv_design.specs.declared.table.Row.{Row}
use Rattle.mv_rows.specs.declared.column.Column.{Column}
use Rattle.mv_rows.specs.declared.line_set.LineSet.{LineSet}
use Rattle.mv_rows.specs.declared.table.RowLines.{RowLines}
use Rattle.mv_rows.specs.declared.stop.RowStop.{RowStop}
use Rattle.mv_rows.specs.declared.stop.RowStop.TheVariants.{Many, Memory}
use Rattle.mv_rows.specs.Flat.{RowsLines, has_output, kept}

-- how many of the lines have an output
abbrev pub count_said : List Line → ℕ
count_said ls = length (filter has_output ls)

-- how many lines with an output there may be
abbrev pub most_of : LineSet → ℕ
most_of d = d.room + count_said d.lines.keys

-- no lines, where there may be so many
pub record IsRoom (most : ℕ) (d : LineSet) : Type 0 where
  pub keys : d.lines.keys ≡ []
  pub room : d.room ≡ most

-- the lines are put in, each that is equal to none before it
pub record Puts (ls : List Line) (old new : LineSet) : Type 0 where
  pub keys : new.lines.keys ≡ insert_all line_eq old.lines.keys ls
  pub most : most_of new ≡ most_of old

-- why lines can't be put in: with them there are more with an output than there may be
abbrev pub StopsPut : List Line → LineSet → RowStop → Type 0
StopsPut ls d Many = most_of d < count_said (insert_all line_eq d.lines.keys ls)
StopsPut ls d Memory = Unit {0}

-- the lines of the rows are put in
pub record PutsRows (columns : List Column) (rows : List Row) (old new : LineSet) : Type 0 where
  pub lines : List Line
  pub are : RowsLines columns rows lines
  pub puts : Puts lines old new

-- with the lines of the rows there are more with an output than there may be
pub record HoldMore (columns : List Column) (rows : List Row) (d : LineSet) : Type 0 where
  pub lines : List Line
  pub are : RowsLines columns rows lines
  pub many : most_of d < count_said (insert_all line_eq d.lines.keys lines)

-- why the lines of the rows can't be put in
abbrev pub StopsRows : List Column → List Row → LineSet → RowStop → Type 0
StopsRows columns rows d Many = HoldMore columns rows d
StopsRows columns rows d Memory = Unit {0}

-- the distinct lines of the rows, where there may be so many
pub record AreDistinct (columns : List Column) (rows : List Row) (most : ℕ) (d : LineSet)
    : Type 0 where
  pub lines : List Line
  pub are : RowsLines columns rows lines
  pub keys : d.lines.keys ≡ insert_all line_eq [] lines
  pub room : most_of d ≡ most

-- the lines of the rows, or others of which the distinct ones are the same
pub record AreLinesOf (columns : List Column) (rows : List Row) (lines : List Line) : Type 0 where
  pub all : List Line
  pub are : RowsLines columns rows all
  pub same : firsts lines ≡ firsts all

-- where the lines are known to be distinct, none is equal to an earlier one
pub record IsListed (lines : RowLines) : Type 0 where
  pub each : lines.distinct ≡ true → firsts lines.list.items ≡ lines.list.items

-- the rows have more distinct lines with an output than so many
pub record HaveMore (columns : List Column) (rows : List Row) (most : ℕ) : Type 0 where
  pub all : List Line
  pub are : RowsLines columns rows all
  pub many : most < length (kept all)

-- why there are no lines of the rows
abbrev pub StopsLines : List Column → List Row → ℕ → RowStop → Type 0
StopsLines columns rows most Many = HaveMore columns rows most
StopsLines columns rows most Memory = Unit {0}
