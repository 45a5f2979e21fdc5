-- The nets of a model without instances as it names them, and what drives them.
use Rattle.std.specs.Prelude.{ℕ, List, [], ◌∷◌, ◌++◌, map, count_by, slice_index_or}
use Rattle.std.specs.List.{flat_map}
use Rattle.mv_base.specs.Firsts.{firsts_by}
use Rattle.mv_base.specs.Names.{same_word}
use Rattle.mv_design.specs.declared.design.FileLatch.{FileLatch}
use Rattle.mv_design.specs.declared.design.FileModel.{FileModel}
use Rattle.mv_design.specs.declared.design.Design.{Design}
use Rattle.mv_design.specs.declared.table.FileTable.{FileTable}
use Rattle.mv_design.specs.ByLine.{by_line}

-- a model without nets
abbrev pub no_model : FileModel
no_model = record {
  name = [];
  inputs = [];
  outputs = [];
  decls = [];
  tables = [];
  latches = [];
  resets = [];
  instances = [];
}

-- the root of a design
unfoldable pub root_of : Design → FileModel
root_of d = slice_index_or d.models d.root no_model

-- the output of a table with one; the output of a reset table names its latch
abbrev pub output_of : FileTable → List ℕ
output_of t = slice_index_or t.outputs 0 []

-- the columns of a table, inputs first
abbrev pub columns_of : FileTable → List (List ℕ)
columns_of t = t.inputs ++ t.outputs

-- what a command names: the line on which it stands, and its nets from left to right
pub record Naming : Type 0 where
  pub line : ℕ
  pub nets : List (List ℕ)

-- what a table or a reset table names
abbrev pub table_naming : FileTable → Naming
table_naming t = record { line = t.line; nets = columns_of t }

-- what a latch names
abbrev pub latch_naming : FileLatch → Naming
latch_naming l = record { line = l.line; nets = l.input ∷ l.output ∷ [] }

-- what the commands of a model name, by line; on one line a latch stands before its reset table
unfoldable pub namings : FileModel → List Naming
namings m =
    by_line (λ x. x.line) (map latch_naming m.latches)
    (by_line (λ x. x.line) (map table_naming m.resets) (map table_naming m.tables))

-- the nets of a model, as often as it names them: its inputs, its outputs, and those of its
-- commands
unfoldable pub nets_named : FileModel → List (List ℕ)
nets_named m = m.inputs ++ (m.outputs ++ flat_map (λ x. x.nets) (namings m))

-- the nets of a model, each once, in the order in which it first names them
unfoldable pub nets_of : FileModel → List (List ℕ)
nets_of m = firsts_by same_word (nets_named m)

-- the inputs of the latches, in order
abbrev pub latch_inputs : FileModel → List (List ℕ)
latch_inputs m = map (λ l. l.input) m.latches

-- the outputs of the latches, in order
abbrev pub latch_outputs : FileModel → List (List ℕ)
latch_outputs m = map (λ l. l.output) m.latches

-- the nets that a table drives
abbrev pub nets_driven : FileTable → List (List ℕ)
nets_driven t = t.outputs

-- the nets that are driven, as often as they are: by an input of the model, by a latch, or by a
-- table. A reset table drives none of them
unfoldable pub drivers : FileModel → List (List ℕ)
drivers m = m.inputs ++ (latch_outputs m ++ flat_map nets_driven m.tables)

-- how many drivers a net has
abbrev pub drivers_of : FileModel → List ℕ → ℕ
drivers_of m net = count_by (same_word net) (drivers m)
