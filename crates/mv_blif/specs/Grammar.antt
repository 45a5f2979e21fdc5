-- The grammar of a BLIF file of one flat model: the faults of its lines, in the order in which they
-- are told. A line's faults depend on the lines before it.
use Rattle.std.specs.Prelude.{◌≡◌, ℕ, Bool, true, false, not, ◌&&◌, List, [], ◌∷◌, ◌++◌, filter, Option, Some, None, if◌then◌else◌}
use Rattle.std.specs.List.{flat_map}
use Rattle.mv_lex.specs.declared.lines.LexLine.{LexLine}
use Rattle.mv_fault.specs.declared.fault.ParseFault.TheVariants.{UnknownCommand, OutsideModel, NoModel, NoTable, Limit}
use Rattle.mv_fault.specs.Tells.{first}
use Rattle.mv_line.specs.Words.{behind_first, first_word}
use Rattle.mv_blif_line.specs.declared.command.Command.{Command}
use Rattle.mv_blif_line.specs.declared.command.Command.TheVariants.{Model, Inputs, Outputs, Names, Latch, Row, End, Unknown}
use Rattle.mv_blif_line.specs.declared.fault.BlifFault.{BlifFault}
use Rattle.mv_blif_line.specs.declared.fault.BlifFault.TheVariants.{Line}
use Rattle.mv_blif_line.specs.declared.row.OpenTable.{OpenTable}
use Rattle.mv_blif_line.specs.Commands.{command_at, is_model}
use Rattle.mv_blif_line.specs.Heads.{model_faults, ports_faults, columns_faults, end_faults}
use Rattle.mv_blif_line.specs.Rows.{row_faults}
use Rattle.mv_blif_line.specs.Latches.{latch_line_faults, settings_at, control_faults}
use Rattle.mv_blif.specs.declared.known.Known.{Known}
use Rattle.mv_blif.specs.declared.design.BlifDesign.{BlifDesign}
use Rattle.mv_blif.specs.Known.{known}
use Rattle.mv_blif.specs.Meaning.{blif_of}

-- the fault of a CONTROL, where the line says a latch
abbrev pub control_faults_at : Command → List (List ℕ) → LexLine → List BlifFault
control_faults_at Latch inputs l = control_faults l.number inputs (settings_at l).control
control_faults_at _ inputs l = []

-- the end of a model of these lines: each CONTROL is one of its inputs, latch by latch
abbrev pub controls_faults : List (List ℕ) → List LexLine → List BlifFault
controls_faults inputs ls = flat_map (λ l. control_faults_at (command_at l) inputs l) ls

-- a row belongs to the table that is open
abbrev pub row_line_faults : Option OpenTable → LexLine → List BlifFault
row_line_faults None l = Line (NoTable l.number) ∷ []
row_line_faults (Some t) l = row_faults l.number t l.words

-- the fault of a line outside the model that may stand in it alone
abbrev pub outside_faults : Command → LexLine → List BlifFault
outside_faults Unknown l = Line (UnknownCommand l.number (first_word l)) ∷ []
outside_faults _ l = Line (OutsideModel l.number) ∷ []

-- the faults of a line within the model, where the lines `ls` before it say `k`
abbrev pub inside_faults : Command → Known → List LexLine → LexLine → List BlifFault
inside_faults Inputs k ls l = ports_faults l.number k.inputs (behind_first l)
inside_faults Outputs k ls l = ports_faults l.number k.outputs (behind_first l)
inside_faults Names k ls l = columns_faults l.number (first_word l) (behind_first l)
inside_faults Latch k ls l = latch_line_faults l.number (first_word l) (behind_first l)
inside_faults Row k ls l = row_line_faults k.table l
inside_faults End k ls l =
    end_faults l.number (first_word l) (behind_first l) ++ controls_faults k.inputs ls
inside_faults Unknown k ls l = Line (UnknownCommand l.number (first_word l)) ∷ []
inside_faults Model k ls l = []

-- the model is open
abbrev pub is_open : Known → Bool
is_open k = k.begun && not k.ended

-- all faults of a line: one that begins the model is told so wherever it stands
unfoldable pub line_faults : Command → Known → List LexLine → LexLine → List BlifFault
line_faults c k ls l =
    if is_model c then model_faults l.number (first_word l) k.begun (behind_first l)
    else if is_open k then inside_faults c k ls l
    else outside_faults c l

-- the faults of the end of a file: there is a model; it ends here, if it has not ended before
abbrev pub file_faults : Known → List LexLine → List BlifFault
file_faults k ls =
    if not k.begun then Line (NoModel 1) ∷ []
    else if k.ended then []
    else controls_faults k.inputs ls

-- the faults of lines behind others, to the end of the file
abbrev pub faults_behind : List LexLine → List LexLine → List BlifFault
faults_behind before [] = file_faults (known before) before
faults_behind before (l ∷ ls) =
    line_faults (command_at l) (known before) before l ++ faults_behind (before ++ l ∷ []) ls

-- all faults of a file
unfoldable pub faults_of : List LexLine → List BlifFault
faults_of lines = faults_behind [] lines

-- a limit of the program is no fault of the grammar
abbrev pub is_limit : BlifFault → Bool
is_limit (Line (Limit n which number)) = true
is_limit _ = false

-- the grammar: lines without a fault, limits aside, and the design that they say
pub record IsBlif (lines : List LexLine) (d : BlifDesign) : Type 0 where
  pub accepted : filter (λ f. not (is_limit f)) (faults_of lines) ≡ []
  pub is : d ≡ blif_of lines

-- no limit of the program is passed
pub record AreWithinLimits (lines : List LexLine) : Type 0 where
  pub within : filter is_limit (faults_of lines) ≡ []

-- the first fault in the order in which faults are told, limits among them
pub record FirstFault (lines : List LexLine) (f : BlifFault) : Type 0 where
  pub first : first (faults_of lines) ≡ Some f
