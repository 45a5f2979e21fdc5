-- The model that the text of a network says: a table or a reset table for each net that has one, and a latch for each latch.
use Rattle.std.specs.Prelude.{◌≡◌, ℕ, Bool, not, ◌||◌, Option, Some, None, option_map, List, [], ◌∷◌, length, map, codes, if◌then◌else◌}
use Rattle.mv_cover.specs.declared.line.Line.{Line}
use Rattle.mv_cover.specs.declared.cover.Cover.{Cover}
use Rattle.mv_design.specs.declared.table.Entry.{Entry}
use Rattle.mv_design.specs.declared.table.Entry.TheVariants.{Set}
use Rattle.mv_design.specs.declared.table.Row.{Row}
use Rattle.mv_design.specs.declared.table.FileTable.{FileTable}
use Rattle.mv_design.specs.declared.design.FileLatch.{FileLatch}
use Rattle.mv_design.specs.declared.design.FileModel.{FileModel}
use Rattle.mv_design.specs.declared.design.Design.{Design}
use Rattle.mv_design.specs.Values.{values_of}
use Rattle.mv_net.specs.declared.parts.FlatNet.{FlatNet}
use Rattle.mv_net.specs.declared.parts.FlatLatch.{FlatLatch}
use Rattle.mv_net.specs.declared.parts.NetParts.{NetParts}
use Rattle.mv_net.specs.Nets.{slot, name_in, spelled_values}
use Rattle.mv_net.specs.Index.{is_reset}
use Rattle.mv_net.specs.Formed.{IsReadable}
use Rattle.mv_text.specs.Text.{fanins_of, set_in, names_of, told_name, is_plain_pair}

-- an output entry that says these values
abbrev pub set_entries : ℕ → List Entry
set_entries set = Set set ∷ []

-- the row of a line: a set for each fanin, and one for the output
abbrev pub row_said : List (Option FlatNet) → List ℕ → Line → Row
row_said nets fanins l = record { ins = map (set_in nets l.cube) fanins; outs = set_entries l.out }

-- the names of the fanins
abbrev pub fanin_names : List (Option FlatNet) → Cover → List (List ℕ)
fanin_names nets c = map (λ m. name_in (slot nets m)) (fanins_of (length nets) c)

-- the table of a net, but for the number of its line
pub record IsTableOf (nets : List (Option FlatNet)) (f : FlatNet) (c : Cover) (t : FileTable) : Type 0 where
  pub inputs : t.inputs ≡ fanin_names nets c
  pub outputs : t.outputs ≡ told_name (Some f) ∷ []
  pub rows : t.rows ≡ map (row_said nets (fanins_of (length nets) c)) c.lines
  pub default : t.default ≡ option_map set_entries c.default

-- a net's table is the first of these, if the net has one, and `Rest` holds of the tables behind it
abbrev pub TableOrNot : List (Option FlatNet) → FlatNet → Option Cover → (List FileTable → Type 0) → List FileTable → Type 0
TableOrNot nets f None Rest ts = Rest ts
TableOrNot nets f (Some c) Rest [] = ⊥
TableOrNot nets f (Some c) Rest (t ∷ ts) = IsTableOf nets f c t × Rest ts

-- the net is a reset net
abbrev pub is_reset_net : FlatNet → Bool
is_reset_net f = is_reset (Some f.kind)

-- the net is another net
abbrev pub is_other_net : FlatNet → Bool
is_other_net f = not (is_reset_net f)

-- the net is not declared: a reset net has the values of its latch, and another net may have the values 0 and 1
abbrev pub needs_none : FlatNet → Bool
needs_none f = is_reset_net f || is_plain_pair f

-- the word that begins a table, or a reset table
abbrev pub begin_word : Bool → List ℕ
begin_word resets = if resets then codes ".reset" else codes ".table"

-- a cover that is left out where a test fails
abbrev pub kept_if : Bool → Option Cover → Option Cover
kept_if test c = if test then c else None

-- one table for each net that has one and passes a test, by ascending number
abbrev pub AreTablesOf : List (Option FlatNet) → (FlatNet → Bool) → List (Option FlatNet) → List FileTable → Type 0
AreTablesOf nets test [] ts = ts ≡ []
AreTablesOf nets test (None ∷ fs) ts = AreTablesOf nets test fs ts
AreTablesOf nets test (Some f ∷ fs) ts = TableOrNot nets f (kept_if (test f) f.table) (AreTablesOf nets test fs) ts

-- a latch, but for the number of its line
pub record IsLatchOf (nets : List (Option FlatNet)) (l : FlatLatch) (h : FileLatch) : Type 0 where
  pub input : h.input ≡ name_in (slot nets l.input.0)
  pub output : h.output ≡ name_in (slot nets l.output.0)

-- one latch for each latch, in order
abbrev pub AreLatchesOf : List (Option FlatNet) → List FlatLatch → List FileLatch → Type 0
AreLatchesOf nets [] [] = Unit {0}
AreLatchesOf nets [] (_ ∷ _) = ⊥
AreLatchesOf nets (_ ∷ _) [] = ⊥
AreLatchesOf nets (l ∷ ls) (h ∷ hs) = IsLatchOf nets l h × AreLatchesOf nets ls hs

-- the model of a network
pub record IsModelOf (net : NetParts) (m : FileModel) : Type 0 where
  pub name : m.name ≡ net.root
  pub inputs : m.inputs ≡ names_of net.nets net.inputs
  pub outputs : m.outputs ≡ names_of net.nets net.outputs
  pub values : (n : ℕ) (r : IsReadable net.nets n) → values_of m.decls r.net.name ≡ spelled_values r.net.values r.net.value_names
  pub tables : AreTablesOf net.nets is_other_net net.nets m.tables
  pub latches : AreLatchesOf net.nets net.latches m.latches
  pub resets : AreTablesOf net.nets is_reset_net net.nets m.resets
  pub instances : m.instances ≡ []

-- a design of this one model
abbrev pub design_with : FileModel → Design
design_with m = record { root = 0; models = m ∷ [] }
