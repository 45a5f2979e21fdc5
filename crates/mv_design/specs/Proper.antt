-- What the grammar makes sure of in a design, line by line: lawful names, values that the nets
-- have, entries that fit, and the order of lines.
use Rattle.std.specs.Prelude.{◌≡◌, ℕ, ◌<◌, ◌≤◌, Bool, true, not, ◌&&◌, nat_eq, nat_lt, Some}
use Rattle.std.specs.Prelude.{List, [], ◌∷◌, length, map, slice_index_or, All}
use Rattle.std.specs.List.{list_all, list_any}
use Rattle.mv_base.specs.Names.{is_net_name, is_model_name, is_value_name, names_differ}
use Rattle.mv_base.specs.Set.{full, Within}
use Rattle.mv_base.specs.declared.limits.TheConstants.{MAX_VALUES}
use Rattle.mv_design.specs.declared.table.Entry.{Entry}
use Rattle.mv_design.specs.declared.table.Entry.TheVariants.{Set, Same}
use Rattle.mv_design.specs.declared.table.Row.{Row}
use Rattle.mv_design.specs.declared.table.FileTable.{FileTable}
use Rattle.mv_design.specs.declared.design.Decl.{Decl}
use Rattle.mv_design.specs.declared.design.FileLatch.{FileLatch}
use Rattle.mv_design.specs.declared.design.Bind.{Bind}
use Rattle.mv_design.specs.declared.design.Instance.{Instance}
use Rattle.mv_design.specs.declared.design.FileModel.{FileModel}
use Rattle.mv_design.specs.declared.design.Design.{Design}
use Rattle.mv_design.specs.Values.{count_of}

-- a set for each column, of values that its net has
abbrev pub FitSets : List Decl → List (List ℕ) → List ℕ → Type 0
FitSets ds [] [] = Unit {0}
FitSets ds [] (_ ∷ _) = ⊥
FitSets ds (_ ∷ _) [] = ⊥
FitSets ds (net ∷ nets) (s ∷ sets) = Within s (full (count_of ds net)) × FitSets ds nets sets

-- an entry `=` of an output: the place of an input column of a net with as many values
pub record IsSame (ds : List Decl) (ins : List (List ℕ)) (net : List ℕ) (k : ℕ) : Type 0 where
  pub within : k < length ins
  pub counts : count_of ds (slice_index_or ins k []) ≡ count_of ds net

-- an entry fits its output: values that the net has, or the place of an input column of a net with
-- as many values
abbrev pub FitOutput : List Decl → List (List ℕ) → List ℕ → Entry → Type 0
FitOutput ds ins net (Set s) = Within s (full (count_of ds net))
FitOutput ds ins net (Same k) = IsSame ds ins net k

-- an entry for each output, which fits it
abbrev pub FitOutputs : List Decl → List (List ℕ) → List (List ℕ) → List Entry → Type 0
FitOutputs ds ins [] [] = Unit {0}
FitOutputs ds ins [] (_ ∷ _) = ⊥
FitOutputs ds ins (_ ∷ _) [] = ⊥
FitOutputs ds ins (net ∷ nets) (e ∷ entries) = FitOutput ds ins net e
    × FitOutputs ds ins nets entries

-- a row fits its table: a set for each input, and an entry for each output
pub record IsFileRow (ds : List Decl) (t : FileTable) (r : Row) : Type 0 where
  pub sets : FitSets ds t.inputs r.ins
  pub outs : FitOutputs ds t.inputs t.outputs r.outs

-- a table has lawful names and some outputs, and its rows and its default fit it
pub record IsFileTable (ds : List Decl) (t : FileTable) : Type 0 where
  pub inputs : list_all is_net_name t.inputs ≡ true
  pub outputs : list_all is_net_name t.outputs ≡ true
  pub some : 0 < length t.outputs
  pub rows : All (IsFileRow ds t) t.rows
  pub default : (entries : List Entry) → t.default ≡ Some entries
      → FitOutputs ds t.inputs t.outputs entries

-- a reset table is a table of one output
pub record IsFileReset (ds : List Decl) (t : FileTable) : Type 0 where
  pub table : IsFileTable ds t
  pub single : length t.outputs ≡ 1

-- a latch has lawful names, and its input as many values as its output
pub record IsFileLatch (ds : List Decl) (l : FileLatch) : Type 0 where
  pub input : is_net_name l.input ≡ true
  pub output : is_net_name l.output ≡ true
  pub counts : count_of ds l.input ≡ count_of ds l.output

-- a declared net: it has some values, and no more than a net may have, with lawful names, all
-- different
pub record IsFileDecl (d : Decl) : Type 0 where
  pub net : is_net_name d.net ≡ true
  pub some : 0 < length d.values
  pub few : length d.values ≤ MAX_VALUES
  pub lawful : list_all is_value_name d.values ≡ true
  pub differ : names_differ d.values ≡ true

-- a binding has lawful names
pub record IsFileBind (b : Bind) : Type 0 where
  pub formal : is_net_name b.formal ≡ true
  pub actual : is_net_name b.actual ≡ true

-- an instance has lawful names, and binds no formal twice
pub record IsFileInstance (p : Instance) : Type 0 where
  pub model : is_model_name p.model ≡ true
  pub name : is_model_name p.name ≡ true
  pub binds : All IsFileBind p.binds
  pub differ : names_differ (map (λ b. b.formal) p.binds) ≡ true

-- ---- the order of lines

-- numbers that ascend: each is less than the next
abbrev pub numbers_ascend : List ℕ → Bool
numbers_ascend [] = true
numbers_ascend (_ ∷ []) = true
numbers_ascend (m ∷ n ∷ ns) = nat_lt m n && numbers_ascend (n ∷ ns)

-- no number stands in both lists
abbrev pub none_in_both : List ℕ → List ℕ → Bool
none_in_both ms ns = list_all (λ m. not (list_any (nat_eq m) ns)) ms

-- the lines of these tables, in order
abbrev pub table_lines : List FileTable → List ℕ
table_lines tables = map (λ t. t.line) tables

-- the lines of these latches, in order
abbrev pub latch_lines : List FileLatch → List ℕ
latch_lines latches = map (λ l. l.line) latches

-- the lines of these instances, in order
abbrev pub instance_lines : List Instance → List ℕ
instance_lines instances = map (λ p. p.line) instances

-- a reset table has the line of a latch only where this is its own, the latch whose output it
-- drives. It comes right behind that latch in file order then
pub record SharesOwnOnly (reset : FileTable) (latch : FileLatch) : Type 0 where
  pub own : reset.line ≡ latch.line → reset.outputs ≡ latch.output ∷ []

-- a model stands by line: its tables by ascending line, and so its latches, its reset tables and
-- its instances, each kind for itself; and no two of all these have one line, but that a reset
-- table may have the line of its own latch
pub record StandsByLine (m : FileModel) : Type 0 where
  pub tables : numbers_ascend (table_lines m.tables) ≡ true
  pub latches : numbers_ascend (latch_lines m.latches) ≡ true
  pub resets : numbers_ascend (table_lines m.resets) ≡ true
  pub instances : numbers_ascend (instance_lines m.instances) ≡ true
  pub latches_tables : none_in_both (latch_lines m.latches) (table_lines m.tables) ≡ true
  pub resets_tables : none_in_both (table_lines m.resets) (table_lines m.tables) ≡ true
  pub instances_tables : none_in_both (instance_lines m.instances) (table_lines m.tables) ≡ true
  pub latches_instances : none_in_both (latch_lines m.latches) (instance_lines m.instances) ≡ true
  pub resets_instances : none_in_both (table_lines m.resets) (instance_lines m.instances) ≡ true
  pub resets_latches : All (λ reset. All (SharesOwnOnly reset) m.latches) m.resets

-- ---- models and designs

-- a model: its names are lawful, no input and no output stands twice, and its declarations, tables,
-- latches, reset tables and instances are such as above
pub record IsLawful (m : FileModel) : Type 0 where
  pub name : is_model_name m.name ≡ true
  pub inputs : list_all is_net_name m.inputs ≡ true
  pub inputs_differ : names_differ m.inputs ≡ true
  pub outputs : list_all is_net_name m.outputs ≡ true
  pub outputs_differ : names_differ m.outputs ≡ true
  pub decls : All IsFileDecl m.decls
  pub tables : All (IsFileTable m.decls) m.tables
  pub latches : All (IsFileLatch m.decls) m.latches
  pub resets : All (IsFileReset m.decls) m.resets
  pub instances : All IsFileInstance m.instances

-- a model of a file: it stands by line besides
pub record IsProperModel (m : FileModel) : Type 0 where
  pub lawful : IsLawful m
  pub order : StandsByLine m

-- a design: each of its models is such, no two have one name, and its root is one of them
pub record IsProper (d : Design) : Type 0 where
  pub models : All IsProperModel d.models
  pub differ : names_differ (map (λ m. m.name) d.models) ≡ true
  pub root : d.root < length d.models
