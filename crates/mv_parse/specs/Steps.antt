-- What a line that has no fault adds to what the lines before say. The reader computes this; that
-- it is what the longer list of lines says is proved of it.
use Rattle.std.specs.Prelude.{◌≡◌, ℕ, ◌+◌, ◌<◌, ◌≤◌, Bool, true, false, not, ◌&&◌, List, [], ◌∷◌, ◌++◌, length, Option, Some, None, is_some, option_map, if◌then◌else◌}
use Rattle.mv_base.specs.Names.{among}
use Rattle.mv_lex.specs.declared.lines.LexLine.{LexLine}
use Rattle.mv_design.specs.declared.design.Decl.{Decl}
use Rattle.mv_decl.specs.Nets.{with_decls}
use Rattle.mv_decl.specs.Line.{decls_said}
use Rattle.mv_table.specs.Columns.{ins_of, outs_of}
use Rattle.mv_line.specs.Latches.{latch_of}
use Rattle.mv_line.specs.Words.{behind_first, first_of}
use Rattle.mv_table.specs.Tables.{table_of}
use Rattle.mv_instances.specs.Line.{instance_name, instance_said}
use Rattle.mv_parse.specs.declared.command.Command.{Command}
use Rattle.mv_parse.specs.declared.command.Command.TheVariants.{Inputs, Outputs, Mv, Table, Latch, Reset, Default, Row, Instance}
use Rattle.mv_parse.specs.declared.known.OpenTable.{OpenTable}
use Rattle.mv_parse.specs.declared.known.OpenModel.{OpenModel}
use Rattle.mv_parse.specs.declared.known.Contents.{Contents}
use Rattle.mv_parse.specs.declared.known.Known.{Known}
use Rattle.mv_base.specs.declared.limits.TheConstants.{MAX_COLUMNS, MAX_MODELS}
use Rattle.mv_parse.specs.Commands.{command_at, is_table, is_model, is_end, is_root}
use Rattle.mv_parse.specs.Known.{front_rows, tables_of, latches_of, resets_of, instances_of, root_said, file_model}

-- a model and a table that begin
abbrev pub new_model : LexLine → OpenModel
new_model l =
    record {
      line = l.number;
      name = first_of (behind_first l);
      inputs = [];
      outputs = [];
      decls = [];
      instances = [];
      table = None;
    }

-- a table that a first line with these words begins
abbrev pub new_table : List (List ℕ) → OpenTable
new_table words =
    record {
      ins = length (ins_of words);
      outs = length (outs_of words);
      rows = 0;
      has_default = false;
    }

-- a model with further inputs; a line that is no row and no default closes its table
abbrev pub with_inputs : List (List ℕ) → OpenModel → OpenModel
with_inputs words m = record m { inputs = m.inputs ++ words; table = None }

-- a model with further outputs; the line closes its table
abbrev pub with_outputs : List (List ℕ) → OpenModel → OpenModel
with_outputs words m = record m { outputs = m.outputs ++ words; table = None }

-- a model with the declarations that these words say; the line closes its table
abbrev pub with_declared : List (List ℕ) → OpenModel → OpenModel
with_declared words m = record m { decls = with_decls m.decls (decls_said words); table = None }

-- a model with the name of one more instance, which these words say; the line closes its table
abbrev pub with_instance : List (List ℕ) → OpenModel → OpenModel
with_instance words m =
    record m { instances = m.instances ++ instance_name words ∷ []; table = None }

-- a model whose table is closed
abbrev pub with_no_table : OpenModel → OpenModel
with_no_table m = record m { table = None }

-- a model with a table, or a reset table, that begins
abbrev pub with_open_table : List (List ℕ) → OpenModel → OpenModel
with_open_table words m = record m { table = Some (new_table words) }

-- a table whose default has stood
abbrev pub default_seen : OpenTable → OpenTable
default_seen t = record t { has_default = true }

-- a table with one more row
abbrev pub row_seen : OpenTable → OpenTable
row_seen t = record t { rows = t.rows + 1 }

-- a model behind a default of its open table
abbrev pub with_default : OpenModel → OpenModel
with_default m = record m { table = option_map default_seen m.table }

-- a model behind a row of it
abbrev pub with_row : OpenModel → OpenModel
with_row m = record m { table = option_map row_seen m.table }

-- a line within a model
abbrev pub inside_step : Command → LexLine → OpenModel → OpenModel
inside_step Inputs l m = with_inputs (behind_first l) m
inside_step Outputs l m = with_outputs (behind_first l) m
inside_step Mv l m = with_declared (behind_first l) m
inside_step Table l m = with_open_table (behind_first l) m
inside_step Latch l m = with_no_table m
inside_step Reset l m = with_open_table (behind_first l) m
inside_step Default l m = with_default m
inside_step Row l m = with_row m
inside_step Instance l m = with_instance (behind_first l) m
inside_step _ l m = m

-- a line within a model goes on with it, or ends it
abbrev pub inside_stepped : Command → Known → OpenModel → List LexLine → LexLine → Known
inside_stepped c k m ls l =
    if is_end c then record k {
      models = k.models ++ file_model m ls ∷ [];
      names = k.names
          ++ m.name ∷ [];
      inside = None;
    }
    else record k { inside = Some (inside_step c l m) }

-- a line that may stand in a model alone
abbrev pub body_step : Command → Known → Option OpenModel → List LexLine → LexLine → Known
body_step c k None ls l = k
body_step c k (Some m) ls l = inside_stepped c k m ls l

-- a model begins
abbrev pub with_model : LexLine → Known → Known
with_model l k = record k { inside = Some (new_model l) }

-- the root is named, and the line closes the table
abbrev pub with_root : LexLine → Known → Known
with_root l k = record k { root = Some (root_said l); inside = option_map with_no_table k.inside }

-- what is known behind a line
unfoldable pub line_step : Command → Known → List LexLine → LexLine → Known
line_step c k ls l = if is_model c then with_model l k else if is_root c then with_root l k
    else body_step c k k.inside ls l

-- a line that has been read is one of the open model's behind its first
abbrev pub is_inner : Command → Option OpenModel → Bool
is_inner c o = not (is_model c) && is_some o

-- what these lines of a model say besides its ports and its declarations
abbrev pub contents_of : List Decl → List LexLine → Contents
contents_of ds ls =
    record {
      tables = tables_of ds ls;
      latches = latches_of ls;
      resets = resets_of ds ls;
      instances = instances_of ls;
    }

-- that of the lines before, with what a line adds, where these lines stand behind it
abbrev pub with_line : Command → List Decl → LexLine → List LexLine → Contents → Contents
with_line Table ds l ls k = record k { tables = k.tables ++ table_of ds l (front_rows ls) ∷ [] }
with_line Latch ds l ls k = record k { latches = k.latches ++ latch_of l ∷ [] }
with_line Reset ds l ls k = record k { resets = k.resets ++ table_of ds l (front_rows ls) ∷ [] }
with_line Instance ds l ls k =
    record k { instances = k.instances ++ instance_said l.number (behind_first l) ∷ [] }
with_line _ ds l ls k = k

-- a first line of a table or a reset table has no more columns than a table may have
abbrev pub HasFewColumns : LexLine → Type 0
HasFewColumns l = is_table (command_at l) ≡ true
    → length (ins_of (behind_first l)) + length (outs_of (behind_first l)) ≤ MAX_COLUMNS

-- the open table has no more columns than a table may have
pub record IsSmall (k : Known) : Type 0 where
  pub columns : (m : OpenModel) (t : OpenTable) → k.inside ≡ Some m → m.table ≡ Some t
      → t.ins + t.outs ≤ MAX_COLUMNS

-- a model can end behind models with these names: it is none of them, and there may be one more
pub record CanEnd (names : List (List ℕ)) (m : OpenModel) : Type 0 where
  pub new : among m.name names ≡ false
  pub room : length names < MAX_MODELS

-- there are no more models than there may be, and the open one can end behind them
pub record HasRoom (k : Known) : Type 0 where
  pub few : length k.names ≤ MAX_MODELS
  pub opened : (m : OpenModel) → k.inside ≡ Some m → CanEnd k.names m
