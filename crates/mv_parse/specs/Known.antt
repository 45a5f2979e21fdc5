-- What the lines of a network file say, each part of it said of the whole list of lines.
use Rattle.std.specs.Prelude.{ℕ, Bool, ◌&&◌, List, [], ◌∷◌, ◌++◌, length, drop, map, filter, count_by, Option, Some, None, option_map, if◌then◌else◌}
use Rattle.std.specs.List.{flat_map, list_all, list_any}
use Rattle.mv_lex.specs.declared.lines.LexLine.{LexLine}
use Rattle.mv_lex.specs.Cuts.{closed, open_piece}
use Rattle.mv_design.specs.declared.design.Decl.{Decl}
use Rattle.mv_design.specs.declared.design.FileLatch.{FileLatch}
use Rattle.mv_design.specs.declared.design.FileModel.{FileModel}
use Rattle.mv_design.specs.declared.design.Instance.{Instance}
use Rattle.mv_design.specs.declared.table.FileTable.{FileTable}
use Rattle.mv_fault.specs.Tells.{first}
use Rattle.mv_decl.specs.Nets.{with_decls}
use Rattle.mv_decl.specs.Line.{decls_said}
use Rattle.mv_table.specs.Columns.{ins_of, outs_of}
use Rattle.mv_line.specs.Latches.{latch_of}
use Rattle.mv_line.specs.Words.{behind_first, first_of}
use Rattle.mv_table.specs.Tables.{table_of}
use Rattle.mv_instances.specs.Line.{instance_name, instance_said}
use Rattle.mv_parse.specs.declared.command.Command.{Command}
use Rattle.mv_parse.specs.declared.command.Command.TheVariants.{Inputs, Outputs, Mv, Table, Latch, Reset, Instance as SaysInstance}
use Rattle.mv_parse.specs.declared.known.OpenTable.{OpenTable}
use Rattle.mv_parse.specs.declared.known.OpenModel.{OpenModel}
use Rattle.mv_parse.specs.declared.known.Root.{Root}
use Rattle.mv_parse.specs.declared.known.Known.{Known}
use Rattle.mv_parse.specs.Commands.{command_at, keeps_table, is_row, is_default, is_table, is_end, is_root}

-- ---- the lines of one model, behind its first

-- the names on a line of inputs
abbrev pub inputs_at : Command → List (List ℕ) → List (List ℕ)
inputs_at Inputs words = words
inputs_at _ words = []

-- the inputs of a model with these lines: the names on all its lines of inputs, joined in order
abbrev pub inputs_of : List LexLine → List (List ℕ)
inputs_of ls = flat_map (λ l. inputs_at (command_at l) (behind_first l)) ls

-- the names on a line of outputs
abbrev pub outputs_at : Command → List (List ℕ) → List (List ℕ)
outputs_at Outputs words = words
outputs_at _ words = []

-- the outputs of a model with these lines: the names on all its lines of outputs, joined in order
abbrev pub outputs_of : List LexLine → List (List ℕ)
outputs_of ls = flat_map (λ l. outputs_at (command_at l) (behind_first l)) ls

-- the declarations that a line says, if it says some
abbrev pub decls_at : Command → List (List ℕ) → List Decl
decls_at Mv words = decls_said words
decls_at _ words = []

-- the declarations of a model with these lines, wherever they stand: each net keeps its first
abbrev pub decls_of : List LexLine → List Decl
decls_of ls = with_decls [] (flat_map (λ l. decls_at (command_at l) (behind_first l)) ls)

-- the name of the instance that a line says, if it says one
abbrev pub instance_names_at : Command → List (List ℕ) → List (List ℕ)
instance_names_at SaysInstance words = instance_name words ∷ []
instance_names_at _ words = []

-- the names of the instances of a model with these lines, in order
abbrev pub instance_names_of : List LexLine → List (List ℕ)
instance_names_of ls = flat_map (λ l. instance_names_at (command_at l) (behind_first l)) ls

-- a table has the rows and the default that come right behind its first line
abbrev pub front_rows : List LexLine → List LexLine
front_rows [] = []
front_rows (l ∷ ls) = if keeps_table (command_at l) then l ∷ front_rows ls else []

-- the table that a line begins, if it begins one
abbrev pub table_at : Command → List Decl → LexLine → List LexLine → List FileTable
table_at Table ds l ls = table_of ds l (front_rows ls) ∷ []
table_at _ ds l ls = []

-- the tables of a model with these lines
abbrev pub tables_of : List Decl → List LexLine → List FileTable
tables_of ds [] = []
tables_of ds (l ∷ ls) = table_at (command_at l) ds l ls ++ tables_of ds ls

-- the latch of a line, if it says one
abbrev pub latch_at : Command → LexLine → List FileLatch
latch_at Latch l = latch_of l ∷ []
latch_at _ l = []

-- the latches of a model with these lines
abbrev pub latches_of : List LexLine → List FileLatch
latches_of ls = flat_map (λ l. latch_at (command_at l) l) ls

-- the reset table that a line begins, if it begins one
abbrev pub reset_at : Command → List Decl → LexLine → List LexLine → List FileTable
reset_at Reset ds l ls = table_of ds l (front_rows ls) ∷ []
reset_at _ ds l ls = []

-- the reset tables of a model with these lines
abbrev pub resets_of : List Decl → List LexLine → List FileTable
resets_of ds [] = []
resets_of ds (l ∷ ls) = reset_at (command_at l) ds l ls ++ resets_of ds ls

-- the instance of a line, if it says one
abbrev pub instance_at : Command → LexLine → List Instance
instance_at SaysInstance l = instance_said l.number (behind_first l) ∷ []
instance_at _ l = []

-- the instances of a model with these lines
abbrev pub instances_of : List LexLine → List Instance
instances_of ls = flat_map (λ l. instance_at (command_at l) l) ls

-- the table that is open behind these lines: the last one, where only rows and defaults stand
-- behind its first line
abbrev pub table_state : LexLine → List LexLine → OpenTable
table_state l ls = record {
  ins = length (ins_of (behind_first l));
  outs = length (outs_of (behind_first l));
  rows = count_by (λ r. is_row (command_at r)) ls;
  has_default = list_any (λ r. is_default (command_at r)) ls;
}

-- the table, or reset table, that is open behind these lines, if one is
abbrev pub open_table : List LexLine → Option OpenTable
open_table [] = None
open_table (l ∷ ls) =
    if is_table (command_at l)
    && list_all (λ r. keeps_table (command_at r)) ls then Some (table_state l ls)
    else open_table ls

-- ---- the root

-- a line names the root
abbrev pub says_root : LexLine → Bool
says_root l = is_root (command_at l)

-- the root that such a line names
abbrev pub root_said : LexLine → Root
root_said l = record { line = l.number; name = first_of (behind_first l) }

-- the root that lines say: that of the first one that names it, wherever it stands
abbrev pub first_root : List LexLine → Option Root
first_root ls = option_map root_said (first (filter says_root ls))

-- ---- models: the lines are cut behind each `.end`

-- a line ends its part
abbrev pub ends_part : LexLine → Bool
ends_part l = is_end (command_at l)

-- a part without the lines in front that name the root, which stand outside its model. Within the
-- model such a line is one of the model's, and says no more of it than that its table is closed
abbrev pub unrooted : List LexLine → List LexLine
unrooted [] = []
unrooted (l ∷ ls) = if says_root l then unrooted ls else l ∷ ls

-- the parts that an `.end` has ended, without it
abbrev pub ended_parts : List LexLine → List (List LexLine)
ended_parts ls = map unrooted (closed ends_part ls)

-- the part behind the last `.end`
abbrev pub open_part : List LexLine → List LexLine
open_part ls = unrooted (open_piece ends_part ls)

-- a model as its first line and the lines behind it say it
abbrev pub open_model : LexLine → List LexLine → OpenModel
open_model l ls = record {
  line = l.number;
  name = first_of (behind_first l);
  inputs = inputs_of ls;
  outputs = outputs_of ls;
  decls = decls_of ls;
  instances = instance_names_of ls;
  table = open_table ls;
}

-- the model that a part begins, if it has a line
abbrev pub open_of : List LexLine → Option OpenModel
open_of [] = None
open_of (l ∷ ls) = Some (open_model l ls)

-- a model that has ended, of which these are the lines behind its first
abbrev pub file_model : OpenModel → List LexLine → FileModel
file_model m ls = record {
  name = m.name;
  inputs = m.inputs;
  outputs = m.outputs;
  decls = m.decls;
  tables = tables_of m.decls ls;
  latches = latches_of ls;
  resets = resets_of m.decls ls;
  instances = instances_of ls;
}

-- the model that has ended, if there is one
abbrev pub ended_model : Option OpenModel → List LexLine → List FileModel
ended_model None ls = []
ended_model (Some m) ls = file_model m ls ∷ []

-- the model that a part says, if it has a line
abbrev pub model_said : List LexLine → List FileModel
model_said part = ended_model (open_of part) (drop 1 part)

-- the models that have ended
abbrev pub models_of : List LexLine → List FileModel
models_of ls = flat_map model_said (ended_parts ls)

-- the names of models
abbrev pub model_names : List FileModel → List (List ℕ)
model_names models = map (λ m. m.name) models

-- what the lines say: the models that have ended and their names, the root, and the model that is
-- open
unfoldable pub known : List LexLine → Known
known ls = record {
  models = models_of ls;
  names = model_names (models_of ls);
  root = first_root ls;
  inside = open_of (open_part ls);
}
