-- The numbers of a model's nets: the inputs, then the outputs of the latches, then the nets of each
-- table.
use Rattle.std.specs.Prelude.{ℕ, Bool, List, [], ◌∷◌, ◌++◌, length, nat_lt, if◌then◌else◌}
use Rattle.std.specs.List.{flat_map}
use Rattle.mv_design.specs.declared.design.Decl.{Decl}
use Rattle.mv_design.specs.declared.design.FileModel.{FileModel}
use Rattle.mv_design.specs.declared.table.FileTable.{FileTable}
use Rattle.mv_design.specs.Nets.{latch_outputs, output_of}
use Rattle.mv_rows.specs.Marked.{is_marked}
use Rattle.mv_joint.specs.Plain.{is_joint_marked}
use Rattle.mv_flat.specs.Numbers.{columns_at, mark_name, choice_name}

-- a table of several outputs, which allows them jointly
abbrev pub is_joint : FileTable → Bool
is_joint t = nat_lt 1 (length t.outputs)

-- the table gets a mark, whatever the numbers of its columns' nets are: here each has its place
-- among the table's inputs
unfoldable pub has_mark : List Decl → FileTable → Bool
has_mark ds t = if is_joint t then is_joint_marked (columns_at ds t.inputs t) t
    else is_marked (columns_at ds t.inputs t) t

-- the name by which a table's mark stands among the nets, if it gets one
abbrev pub marks_of : List Decl → FileTable → List (List ℕ)
marks_of ds t = if has_mark ds t then mark_name (output_of t) ∷ [] else []

-- the name by which its choice net does, if it has several outputs
abbrev pub choices_of : FileTable → List (List ℕ)
choices_of t = if is_joint t then choice_name (output_of t) ∷ [] else []

-- the nets that are made for a table
abbrev pub made_places : List Decl → FileTable → List (List ℕ)
made_places ds t = marks_of ds t ++ choices_of t

-- the nets of a table: its outputs, and before them those that are made for it
abbrev pub table_places : List Decl → FileTable → List (List ℕ)
table_places ds t = made_places ds t ++ t.outputs

-- the nets of a model by number: the inputs, the outputs of the latches, then the nets of each
-- table
unfoldable pub net_places : FileModel → List (List ℕ)
net_places m = m.inputs ++ (latch_outputs m ++ flat_map (table_places m.decls) m.tables)
