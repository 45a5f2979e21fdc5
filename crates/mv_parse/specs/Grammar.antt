-- The grammar of a network file, after the description of BLIF-MV by Kukimoto: the faults of its
-- lines, in the order in which they are told. A line's faults depend on the lines before it; a file
-- that has none is a design.
use Rattle.std.specs.Prelude.{◌≡◌, ℕ, ◌+◌, Bool, true, false, not, ◌==◌, nat_lt, nat_le, List, []}
use Rattle.std.specs.Prelude.{◌∷◌, ◌++◌, length, drop, filter, Option, Some, None, is_some, if◌then◌else◌}
use Rattle.mv_base.specs.Names.{among, place_of, is_model_name}
use Rattle.mv_base.specs.declared.limits.TheConstants.{MAX_TABLE_LINES, MAX_MODELS}
use Rattle.mv_lex.specs.declared.lines.LexLine.{LexLine}
use Rattle.mv_design.specs.declared.design.Decl.{Decl}
use Rattle.mv_design.specs.declared.design.FileLatch.{FileLatch}
use Rattle.mv_design.specs.declared.design.Design.{Design}
use Rattle.mv_design.specs.Values.{count_of}
use Rattle.mv_fault.specs.declared.fault.Which.TheVariants.{TableLines, Models}
use Rattle.mv_fault.specs.declared.fault.ParseFault.{ParseFault}
use Rattle.mv_fault.specs.declared.fault.ParseFault.TheVariants.{UnknownCommand, OutsideModel, NoEnd, Missing, Extra, Columns, DefaultTwice}
use Rattle.mv_fault.specs.declared.fault.ParseFault.TheVariants.{ModelTwice, RootFault, NoModel, Limit}
use Rattle.mv_fault.specs.declared.fault.ParseFault.TheVariants.{BadName, NoTable, LatchValues}
use Rattle.mv_fault.specs.Tells.{when, first}
use Rattle.mv_decl.specs.Line.{net_name_faults, decl_faults}
use Rattle.mv_table.specs.Columns.{columns_faults, reset_faults}
use Rattle.mv_line.specs.Latches.{latch_of}
use Rattle.mv_line.specs.Ports.{port_faults}
use Rattle.mv_line.specs.Words.{behind_first, first_word}
use Rattle.mv_table.specs.Tables.{table_faults}
use Rattle.mv_instances.specs.Line.{instance_faults}
use Rattle.mv_parse.specs.declared.command.Command.{Command}
use Rattle.mv_parse.specs.declared.command.Command.TheVariants.{Inputs, Outputs, Mv, Table, Latch, Reset, Default, Row, Instance, Unknown}
use Rattle.mv_parse.specs.declared.known.OpenTable.{OpenTable}
use Rattle.mv_parse.specs.declared.known.OpenModel.{OpenModel}
use Rattle.mv_parse.specs.declared.known.Root.{Root}
use Rattle.mv_parse.specs.declared.known.Known.{Known}
use Rattle.mv_parse.specs.Commands.{command_at, is_model, is_end, is_root}
use Rattle.mv_parse.specs.Known.{front_rows, open_part, known}

-- the name behind `.model`, exactly one word: no model of this name has ended
abbrev pub model_name_faults : ℕ → List ℕ → List (List ℕ) → List (List ℕ) → List ParseFault
model_name_faults n word names [] = Missing n word ∷ []
model_name_faults n word names (w ∷ words) =
    when (not (is_model_name w)) (BadName n w) ++ when (among w names) (ModelTwice n w)
    ++ when (nat_lt 0 (length words)) (Extra n word)

-- `.model NAME`, behind models with these names: first of all there may be one more
unfoldable pub model_faults : ℕ → List ℕ → List (List ℕ) → List (List ℕ) → List ParseFault
model_faults n word names words =
    when (nat_le MAX_MODELS (length names)) (Limit n Models (MAX_MODELS + 1))
    ++ model_name_faults n word names words

-- `.root NAME`: exactly one word, and no line before names the root
unfoldable pub root_faults : ℕ → List ℕ → Option Root → List (List ℕ) → List ParseFault
root_faults n word root [] = Missing n word ∷ []
root_faults n word root (w ∷ words) =
    when (not (is_model_name w)) (BadName n w) ++ when (is_some root) (RootFault n w)
    ++ when (nat_lt 0 (length words)) (Extra n word)

-- `.latch IN OUT`: exactly two words
unfoldable pub latch_faults : ℕ → List ℕ → List (List ℕ) → List ParseFault
latch_faults n word [] = Missing n word ∷ []
latch_faults n word (input ∷ []) = net_name_faults n input ++ Missing n word ∷ []
latch_faults n word (input ∷ output ∷ words) =
    net_name_faults n input ++ net_name_faults n output
    ++ when (nat_lt 0 (length words)) (Extra n word)

-- a row of the open table: one entry a column
unfoldable pub row_faults : ℕ → OpenTable → List (List ℕ) → List ParseFault
row_faults n t words =
    when (nat_le MAX_TABLE_LINES t.rows) (Limit n TableLines (MAX_TABLE_LINES + 1))
    ++ when (not (length words == t.ins + t.outs)) (Columns n (t.ins + t.outs) (length words))

-- the default of the open table: once, and one entry an output
unfoldable pub default_faults : ℕ → List ℕ → OpenTable → List (List ℕ) → List ParseFault
default_faults n word t words =
    when t.has_default (DefaultTwice n) ++ when (nat_lt (length words) t.outs) (Missing n word)
    ++ when (nat_lt t.outs (length words)) (Extra n word)

-- the input and the output of a latch have as many values
unfoldable pub latch_value_faults : List Decl → FileLatch → List ParseFault
latch_value_faults ds h =
    when (not (count_of ds h.input == count_of ds h.output)) (LatchValues h.line h.input h.output)

-- the faults of the values of a table or a reset table, if the line begins one and these lines
-- stand behind it, or of a latch
abbrev pub table_value_faults : Command → List Decl → LexLine → List LexLine → List ParseFault
table_value_faults Table ds l ls = table_faults ds l (front_rows ls)
table_value_faults Latch ds l ls = latch_value_faults ds (latch_of l)
table_value_faults Reset ds l ls = table_faults ds l (front_rows ls)
table_value_faults _ ds l ls = []

-- the faults of the values of a model's rows, defaults and latches, line by line, where these are
-- its lines
abbrev pub tables_faults : List Decl → List LexLine → List ParseFault
tables_faults ds [] = []
tables_faults ds (l ∷ ls) = table_value_faults (command_at l) ds l ls ++ tables_faults ds ls

-- `.end`: no further word; then the values of its model are checked
unfoldable pub end_faults : ℕ → List ℕ → List (List ℕ) → List Decl → List LexLine → List ParseFault
end_faults n word words ds ls = when (nat_lt 0 (length words)) (Extra n word) ++ tables_faults ds ls

-- the faults of what needs a table that is open
abbrev pub at_table : ℕ → Option OpenTable → (OpenTable → List ParseFault) → List ParseFault
at_table n None faults = NoTable n ∷ []
at_table n (Some t) faults = faults t

-- the fault of a line outside a model that may stand in one alone
abbrev pub outside_faults : Command → LexLine → List ParseFault
outside_faults Unknown l = UnknownCommand l.number (first_word l) ∷ []
outside_faults _ l = OutsideModel l.number ∷ []

-- the faults of a line within a model, which it doesn't end
abbrev pub inside_faults : Command → OpenModel → LexLine → List ParseFault
inside_faults Inputs m l = port_faults l.number m.inputs (behind_first l)
inside_faults Outputs m l = port_faults l.number m.outputs (behind_first l)
inside_faults Mv m l = decl_faults l.number (first_word l) m.decls (behind_first l)
inside_faults Table m l = columns_faults l.number (first_word l) (behind_first l)
inside_faults Latch m l = latch_faults l.number (first_word l) (behind_first l)
inside_faults Reset m l = reset_faults l.number (first_word l) (behind_first l)
inside_faults Default m l =
    at_table l.number m.table (λ t. default_faults l.number (first_word l) t (behind_first l))
inside_faults Row m l = at_table l.number m.table (λ t. row_faults l.number t l.words)
inside_faults Instance m l = instance_faults l.number (first_word l) m.instances (behind_first l)
inside_faults Unknown m l = UnknownCommand l.number (first_word l) ∷ []
inside_faults _ m l = []

-- the faults of a line that may stand in a model alone, where `ls` are the lines of the open model
-- behind its first
abbrev pub body_faults : Command → Option OpenModel → List LexLine → LexLine → List ParseFault
body_faults c None ls l = outside_faults c l
body_faults c (Some m) ls l =
    if is_end c then end_faults l.number (first_word l) (behind_first l) m.decls ls
    else inside_faults c m l

-- a model begins behind the end of the one before
abbrev pub unended_faults : Option OpenModel → List ParseFault
unended_faults None = []
unended_faults (Some m) = NoEnd m.line ∷ []

-- the faults of a line that begins a model
abbrev pub begin_faults : Known → LexLine → List ParseFault
begin_faults k l = unended_faults k.inside
    ++ model_faults l.number (first_word l) k.names (behind_first l)

-- all faults of a line, where the lines before say `k`: one that begins a model stands outside the
-- others, and one that names the root anywhere
unfoldable pub line_faults : Command → Known → List LexLine → LexLine → List ParseFault
line_faults c k ls l =
    if is_model c then begin_faults k l
    else if is_root c then root_faults l.number (first_word l) k.root (behind_first l)
    else body_faults c k.inside ls l

-- the lines of the open model behind its first
abbrev pub behind_model : List LexLine → List LexLine
behind_model part = drop 1 part

-- the faults of a line behind these others
abbrev pub faults_at : List LexLine → LexLine → List ParseFault
faults_at before l = line_faults (command_at l) (known before) (behind_model (open_part before)) l

-- the root is one of the models with these names
abbrev pub lost_faults : Option Root → List (List ℕ) → List ParseFault
lost_faults None names = []
lost_faults (Some r) names = when (not (among r.name names)) (RootFault r.line r.name)

-- the faults of the end of a file, where this model is open, or none, and its lines say `k`: none
-- is open, there is a model, and the root is one of them
abbrev pub last_faults : Option OpenModel → Known → List ParseFault
last_faults (Some m) k = NoEnd m.line ∷ []
last_faults None k = when (length k.models == 0) (NoModel 1) ++ lost_faults k.root k.names

-- the faults of the end of a file, where its lines say `k`
abbrev pub file_faults : Known → List ParseFault
file_faults k = last_faults k.inside k

-- the faults of lines behind others, to the end of the file
abbrev pub faults_behind : List LexLine → List LexLine → List ParseFault
faults_behind before [] = file_faults (known before)
faults_behind before (l ∷ ls) = faults_at before l ++ faults_behind (before ++ l ∷ []) ls

-- all faults of a file
unfoldable pub faults_of : List LexLine → List ParseFault
faults_of lines = faults_behind [] lines

-- a limit of the program is no fault of the grammar
abbrev pub is_limit : ParseFault → Bool
is_limit (Limit n which number) = true
is_limit _ = false

-- a place, if there is one, and else the first
abbrev pub or_first : Option ℕ → ℕ
or_first None = 0
or_first (Some place) = place

-- the place of the root among the models with these names: the first, where no line names it
abbrev pub root_place : Option Root → List (List ℕ) → ℕ
root_place None names = 0
root_place (Some r) names = or_first (place_of r.name names)

-- the design that is known
abbrev pub design_known : Known → Design
design_known k = record { root = root_place k.root k.names; models = k.models }

-- the design that lines say
unfoldable pub design_of : List LexLine → Design
design_of lines = design_known (known lines)

-- the grammar: lines without a fault, limits aside, and the design that they say
pub record IsDesign (lines : List LexLine) (d : Design) : Type 0 where
  pub accepted : filter (λ f. not (is_limit f)) (faults_of lines) ≡ []
  pub is : d ≡ design_of lines

-- no limit of the program is passed
pub record AreWithinLimits (lines : List LexLine) : Type 0 where
  pub within : filter is_limit (faults_of lines) ≡ []

-- the first fault in the order in which faults are told, limits among them
pub record FirstFault (lines : List LexLine) (f : ParseFault) : Type 0 where
  pub first : first (faults_of lines) ≡ Some f
