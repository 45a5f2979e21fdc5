-- A table of several outputs as covers, line by line: a choice net, whose values are the distinct
-- rows of outputs, and a table on it for each output.
use Rattle.std.specs.Prelude.{◌≡◌, ℕ, ◌+◌, ◌<◌, ◌≤◌, Option, Some, None, List, [], ◌∷◌, ◌++◌, length, map, position, slice_index_or, max}
use Rattle.std.specs.Option.{unwrap_or}
use Rattle.mv_base.specs.Set.{empty, one}
use Rattle.mv_base.specs.Firsts.{firsts_by}
use Rattle.mv_base.specs.declared.number.NetId.{NetId}
use Rattle.mv_base.specs.declared.limits.TheConstants.{MAX_VALUES, MAX_JOINT_ROWS}
use Rattle.mv_cover.specs.declared.cover.Cover.{Cover}
use Rattle.mv_design.specs.declared.table.Entry.{Entry}
use Rattle.mv_design.specs.declared.table.Entry.TheVariants.{Set}
use Rattle.mv_design.specs.declared.table.Row.{Row}
use Rattle.mv_design.specs.declared.table.FileTable.{FileTable}
use Rattle.mv_rows.specs.declared.column.Column.{Column}
use Rattle.mv_rows.specs.Flat.{IsMade}
use Rattle.mv_joint.specs.OutRows.{same_outs}
use Rattle.mv_joint.specs.declared.split.PlainRow.{PlainRow}
use Rattle.mv_joint.specs.Plain.{PlainTable}
use Rattle.mv_joint.specs.declared.joint.JointTable.{JointTable}
use Rattle.mv_joint.specs.declared.joint.JointStop.{JointStop}
use Rattle.mv_joint.specs.declared.joint.JointStop.TheVariants.{Wide, Memory}
use Rattle.mv_cover.specs.declared.line.Line.{Line}
use Rattle.mv_rows.specs.declared.stop.RowStop.{RowStop}
use Rattle.mv_rows.specs.declared.stop.RowStop.TheVariants.{Many, Memory as out_of_rows}
use Rattle.mv_joint.specs.declared.stop.CoversStop.{CoversStop}
use Rattle.mv_joint.specs.declared.stop.CoversStop.TheVariants.{Wide as TooWide, Many as TooMany, Memory as out_of_covers}
use Rattle.mv_joint.specs.Plain.{plain_of, mark_of}

-- the default's row of outputs, if there is a default
abbrev pub given : Option (List ℕ) → List (List ℕ)
given None = []
given (Some outs) = outs ∷ []

-- the distinct rows of outputs in order of first appearance, the default's last
abbrev pub distinct : PlainTable → List (List ℕ)
distinct p = firsts_by same_outs (map (λ (r : PlainRow). r.outs) p.rows ++ given p.default)

-- how many values the choice net has: one for each row of outputs, and one if there is none
abbrev pub choice_count : List (List ℕ) → ℕ
choice_count all = max 1 (length all)

-- the choice net's value for a row of outputs: its place among them
abbrev pub choice_entry : List (List ℕ) → List ℕ → Entry
choice_entry all outs = Set (one (unwrap_or (position (same_outs outs) all) 0))

-- the row of the choice net's table
abbrev pub choice_row : List (List ℕ) → PlainRow → Row
choice_row all r = record { ins = r.ins; outs = choice_entry all r.outs ∷ [] }

-- its default
abbrev pub choice_default : List (List ℕ) → Option (List ℕ) → Option (List Entry)
choice_default all None = None
choice_default all (Some outs) = Some (choice_entry all outs ∷ [])

-- a table of one output with these rows and this default
abbrev pub table_of : List Row → Option (List Entry) → FileTable
table_of rows default =
    record { line = 0; inputs = []; outputs = []; rows = rows; default = default }

-- the choice net's table
abbrev pub choice_table : PlainTable → FileTable
choice_table p =
    table_of (map (choice_row (distinct p)) p.rows) (choice_default (distinct p) p.default)

-- the row of the choice net's value v: the set that the row of outputs has for output j
abbrev pub output_row : ℕ → ℕ → List ℕ → Row
output_row j v outs = record { ins = one v ∷ []; outs = Set (slice_index_or outs j empty) ∷ [] }

-- the rows of these rows of outputs, whose values begin with v
abbrev pub output_rows : ℕ → ℕ → List (List ℕ) → List Row
output_rows j v [] = []
output_rows j v (outs ∷ all) = output_row j v outs ∷ output_rows j (v + 1) all

-- the table of output j on the choice net
abbrev pub output_table : List (List ℕ) → ℕ → FileTable
output_table all j = table_of (output_rows j 0 all) None

-- the choice net as a column
abbrev pub choice_columns : List (List ℕ) → NetId → List Column
choice_columns all choice = record { net = choice; count = choice_count all } ∷ []

-- the cover of a table of one output, by the rules for these, and without a mark
abbrev pub IsCoverOf : List Column → FileTable → NetId → Cover → Type 0
IsCoverOf columns t mark c = IsMade columns t mark (record { cover = c; mark = None })

-- covers of the outputs from j on
abbrev pub AreOutputs : List (List ℕ) → NetId → NetId → ℕ → List Cover → Type 0
AreOutputs all mark choice j [] = Unit {0}
AreOutputs all mark choice j (c ∷ cs) =
    IsCoverOf (choice_columns all choice) (output_table all j) mark c
    × AreOutputs all mark choice (j + 1) cs

-- the cover of the mark's table, if there is one
abbrev pub IsMarkOf : List Column → NetId → Option FileTable → Option Cover → Type 0
IsMarkOf columns mark None None = Unit {0}
IsMarkOf columns mark None (Some c) = ⊥
IsMarkOf columns mark (Some t) None = ⊥
IsMarkOf columns mark (Some t) (Some c) = IsCoverOf columns t mark c

-- the covers of a table without `=`
pub record IsMadeOf (columns : List Column) (p : PlainTable) (several : ℕ) (mark choice : NetId)
    (joint : JointTable) : Type 0 where
  pub few : length (distinct p) ≤ MAX_VALUES
  pub values : joint.values ≡ choice_count (distinct p)
  pub chosen : IsCoverOf p.columns (choice_table p) mark joint.choice
  pub many : length joint.outputs ≡ several
  pub each : AreOutputs (distinct p) mark choice 0 joint.outputs
  pub marked : IsMarkOf columns mark p.mark joint.mark

-- the covers of a table of a file
abbrev pub IsMadeJoint : List Column → FileTable → NetId → NetId → JointTable → Type 0
IsMadeJoint columns t mark choice joint =
    IsMadeOf columns (plain_of columns t mark) (length t.outputs) mark choice joint

-- there are more distinct rows of outputs than a table may have
abbrev pub IsWide : List Column → FileTable → NetId → Type 0
IsWide columns t mark = MAX_JOINT_ROWS < length (distinct (plain_of columns t mark))

-- why a table without `=` has no covers
abbrev pub StopsWith : PlainTable → JointStop → Type 0
StopsWith p Wide = MAX_JOINT_ROWS < length (distinct p)
StopsWith p Memory = Unit {0}

-- the lines of a mark's cover, if there is one
abbrev pub mark_lines : Option Cover → List Line
mark_lines None = []
mark_lines (Some cover) = cover.lines

-- the mark's cover has more lines than so many
pub record HasMoreMarks (columns : List Column) (t : FileTable) (mark : NetId) (most : ℕ)
    : Type 0 where
  pub cover : Cover
  pub made : IsMarkOf columns mark (mark_of columns t) (Some cover)
  pub many : most < length cover.lines

-- why the mark's cover isn't made
abbrev pub StopsMark : List Column → FileTable → NetId → ℕ → RowStop → Type 0
StopsMark columns t mark most Many = HasMoreMarks columns t mark most
StopsMark columns t mark most out_of_rows = Unit {0}

-- the covers of the mark and of the choice net have more lines than so many
pub record HasMoreLines (columns : List Column) (t : FileTable) (mark choice : NetId) (most : ℕ)
    : Type 0 where
  pub joint : JointTable
  pub made : IsMadeJoint columns t mark choice joint
  pub many : most < length (mark_lines joint.mark) + length joint.choice.lines

-- why the covers of a table that isn't too wide aren't made
abbrev pub StopsMany : List Column → FileTable → NetId → NetId → ℕ → RowStop → Type 0
StopsMany columns t mark choice most Many = HasMoreLines columns t mark choice most
StopsMany columns t mark choice most out_of_rows = Unit {0}

-- why the covers of a table aren't made
abbrev pub StopsCovers : List Column → FileTable → NetId → NetId → ℕ → CoversStop → Type 0
StopsCovers columns t mark choice most TooWide = IsWide columns t mark
StopsCovers columns t mark choice most TooMany = HasMoreLines columns t mark choice most
StopsCovers columns t mark choice most out_of_covers = Unit {0}

-- why a table of a file has no covers
abbrev pub StopsBy : List Column → FileTable → NetId → JointStop → Type 0
StopsBy columns t mark stop = StopsWith (plain_of columns t mark) stop
