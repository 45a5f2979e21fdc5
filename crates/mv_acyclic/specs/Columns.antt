-- The columns of each net's table by number. For private functions.
use Rattle.std.specs.Prelude.{ℕ, ◌+◌, List, [], ◌++◌, length, map, replicate}
use Rattle.std.specs.List.{flat_map}
use Rattle.mv_base.specs.declared.number.NetId.{NetId}
use Rattle.mv_design.specs.declared.table.FileTable.{FileTable}
use Rattle.mv_design.specs.declared.design.FileModel.{FileModel}
use Rattle.mv_acyclic.specs.Numbers.{numbers_in}

-- a net that the table drives has the table's inputs as columns
abbrev pub driven_columns : List (List ℕ) → FileTable → List ℕ → List NetId
driven_columns names t w = numbers_in names t.inputs

-- the columns of each net that a table drives
abbrev pub table_columns : List (List ℕ) → FileTable → List (List NetId)
table_columns names t = map (driven_columns names t) t.outputs

-- the columns of each driven net: first the inputs of the model and the outputs of its latches,
-- which have none, and then the outputs of its tables
abbrev pub columns_by_net : List (List ℕ) → FileModel → List (List NetId)
columns_by_net names m = replicate (length m.inputs + length m.latches) []
    ++ flat_map (table_columns names) m.tables
