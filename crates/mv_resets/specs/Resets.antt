-- A model with a net for each reset value: each reset table becomes a table of a net of its own,
-- which has the values of its latch, and is named by a full stop and the latch's name, as no net of
-- a file is.
use Rattle.std.specs.Prelude.{ℕ, List, [], ◌∷◌, ◌++◌, map}
use Rattle.mv_design.specs.declared.design.Decl.{Decl}
use Rattle.mv_design.specs.declared.design.FileModel.{FileModel}
use Rattle.mv_design.specs.declared.table.FileTable.{FileTable}
use Rattle.mv_design.specs.ByLine.{by_line}
use Rattle.mv_design.specs.Nets.{output_of}
use Rattle.mv_design.specs.Values.{values_of}

-- the name of a latch's reset net: a full stop and the latch's name
abbrev pub reset_name : List ℕ → List ℕ
reset_name latch = 46 ∷ latch

-- a reset table as the table of a reset net
abbrev pub reset_table : FileTable → FileTable
reset_table t =
    record {
      line = t.line;
      inputs = t.inputs;
      outputs = map reset_name t.outputs;
      rows = t.rows;
      default = t.default;
    }

-- the reset net has the values of its latch
abbrev pub reset_decl : List Decl → FileTable → Decl
reset_decl ds t = record { net = reset_name (output_of t); values = values_of ds (output_of t) }

-- the tables of a model, those of its reset nets among them, by line
abbrev pub all_tables : FileModel → List FileTable
all_tables m = by_line (λ t. t.line) (map reset_table m.resets) m.tables

-- the same model with its reset tables as tables of reset nets
unfoldable pub with_reset_nets : FileModel → FileModel
with_reset_nets m = record {
  name = m.name;
  inputs = m.inputs;
  outputs = m.outputs;
  decls = m.decls ++ map (reset_decl m.decls) m.resets;
  tables = all_tables m;
  latches = m.latches;
  resets = [];
  instances = m.instances;
}
