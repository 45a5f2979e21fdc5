-- Rows that are gathered one after the other, with their distinct rows of outputs. For private
-- functions.
use Rattle.std.specs.Prelude.{◌≡◌, ℕ, ◌<◌, Option, Some, None, List, [], ◌∷◌, ◌++◌, length, map, filter}
use Rattle.indexmap.specs.IndexSet.{insert_all}
use Rattle.mv_base.specs.declared.limits.TheConstants.{MAX_JOINT_ROWS}
use Rattle.mv_design.specs.declared.table.Entry.{Entry}
use Rattle.mv_rows.specs.declared.column.Column.{Column}
use Rattle.mv_joint.specs.OutRows.{same_outs}
use Rattle.mv_joint.specs.declared.split.PlainRow.{PlainRow}
use Rattle.mv_joint.specs.declared.gather.Gathered.{Gathered}
use Rattle.mv_joint.specs.Plain.{PlainTable}
use Rattle.mv_joint.specs.declared.plain.SplitTable.{SplitTable}
use Rattle.mv_joint.specs.declared.joint.JointStop.{JointStop}
use Rattle.mv_joint.specs.declared.joint.JointStop.TheVariants.{Wide, Memory}
use Rattle.mv_joint.specs.Split.{split, is_possible}
use Rattle.mv_joint.specs.Plain.{said}
use Rattle.mv_joint.specs.Joint.{distinct, choice_row, choice_default, table_of}
use Rattle.mv_design.specs.declared.table.Row.{Row}
use Rattle.mv_design.specs.declared.table.FileTable.{FileTable}
use Rattle.mv_rows.specs.declared.line_set.LineSet.{LineSet}
use Rattle.mv_rows.specs.Once.{IsRoom, PutsRows}

-- the rows of a row with these entries more that match something
abbrev pub rest_of : List Column → List Entry → PlainRow → List PlainRow
rest_of columns es r = filter (is_possible columns) (split columns es (r ∷ []))

-- the row, if there is one
abbrev pub listed : Option PlainRow → List PlainRow
listed None = []
listed (Some r) = r ∷ []

-- distinct rows of outputs, with those of these rows that say some values of each output
abbrev pub joined : List (List ℕ) → List PlainRow → List (List ℕ)
joined keys rows = insert_all same_outs keys (map (λ (r : PlainRow). r.outs) (said rows))

-- these rows and their distinct rows of outputs
pub record IsGathered (all : List PlainRow) (g : Gathered) : Type 0 where
  pub rows : g.rows ≡ all
  pub outs : g.outs.keys ≡ joined [] all

-- some rows more
pub record Gathers (more : List PlainRow) (old new : Gathered) : Type 0 where
  pub rows : new.rows ≡ old.rows ++ more
  pub outs : new.outs.keys ≡ joined old.outs.keys more

-- why some rows more can't be gathered: with them there are more distinct rows of outputs than a
-- table may have
abbrev pub StopsOver : List PlainRow → Gathered → JointStop → Type 0
StopsOver more g Wide = MAX_JOINT_ROWS < length (joined g.outs.keys more)
StopsOver more g Memory = Unit {0}

-- why rows can't be gathered
abbrev pub StopsRows : List PlainRow → JointStop → Type 0
StopsRows rows Wide = MAX_JOINT_ROWS < length (joined [] rows)
StopsRows rows Memory = Unit {0}

-- the table, but for its mark, and its distinct rows of outputs
pub record AreChoices (p : PlainTable) (found : SplitTable) : Type 0 where
  pub columns : found.columns ≡ p.columns
  pub rows : found.rows ≡ p.rows
  pub default : found.default ≡ p.default
  pub choices : found.choices.keys ≡ distinct p

-- the choice net's table
abbrev pub choice_of : SplitTable → FileTable
choice_of f =
    table_of (map (choice_row f.choices.keys) f.rows) (choice_default f.choices.keys f.default)

-- the lines of rows are put in where there were none, and where there may be so many
pub record PutsFrom (columns : List Column) (rows : List Row) (most : ℕ) (d : LineSet)
    : Type 0 where
  pub start : LineSet
  pub room : IsRoom most start
  pub puts : PutsRows columns rows start d
