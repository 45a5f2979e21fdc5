-- When the parts of a network are well formed.
use Rattle.std.specs.Prelude.{◌≡◌, ℕ, ◌<◌, ◌≤◌, Bool, true, false, Option, Some, None, List, [], ◌∷◌, length, decimal, map, is_some}
use Rattle.std.specs.List.{list_all, range_with_len}
use Rattle.mv_base.specs.Names.{is_net_name, is_model_name, is_value_name, names_differ}
use Rattle.mv_base.specs.Set.{full}
use Rattle.mv_base.specs.declared.limits.TheConstants.{MAX_VALUES}
use Rattle.mv_base.specs.declared.number.NetId.{NetId}
use Rattle.mv_cover.specs.Literal.{Lit}
use Rattle.mv_cover.specs.Cubes.{IsCube}
use Rattle.mv_cover.specs.Lines.{IsOutput, lines_differ}
use Rattle.mv_cover.specs.Absorb.{some_bare}
use Rattle.mv_cover.specs.declared.line.Line.{Line}
use Rattle.mv_cover.specs.declared.cover.Cover.{Cover}
use Rattle.mv_net.specs.declared.parts.Kind.{Kind}
use Rattle.mv_net.specs.declared.parts.Kind.TheVariants.{Input, Latch, Table, Reset}
use Rattle.mv_net.specs.declared.parts.FlatNet.{FlatNet}
use Rattle.mv_net.specs.declared.parts.FlatLatch.{FlatLatch}
use Rattle.mv_net.specs.declared.parts.NetParts.{NetParts}
use Rattle.mv_net.specs.Nets.{slot, reads_in, values_in}
use Rattle.mv_graph.specs.Nets.{has_id, all_differ}
use Rattle.mv_graph.specs.Above.{IsAbove, IsAcyclic}

-- the net at the number is held and of this kind
pub record IsKind (nets : List (Option FlatNet)) (n : ℕ) (kind : Kind) : Type 0 where
  pub net : FlatNet
  pub held : slot nets n ≡ Some net
  pub is : net.kind ≡ kind

-- the net at the number is held and can be read: it isn't a reset net
pub record IsReadable (nets : List (Option FlatNet)) (n : ℕ) : Type 0 where
  pub net : FlatNet
  pub held : slot nets n ≡ Some net
  pub plain : net.kind ≡ Reset → ⊥

-- a literal on a net that can be read, whose set has some of the net's values, but not all
pub record IsLiteral (nets : List (Option FlatNet)) (l : Lit) : Type 0 where
  pub readable : IsReadable nets l.net.0
  pub set : IsOutput (values_in (slot nets l.net.0)) l.set
  pub not_full : l.set ≡ full (values_in (slot nets l.net.0)) → ⊥

-- each of these is a literal
abbrev pub AllLiterals : List (Option FlatNet) → List Lit → Type 0
AllLiterals nets [] = Unit {0}
AllLiterals nets (l ∷ ls) = IsLiteral nets l × AllLiterals nets ls

-- each line's literals are such, and its output is some of the values of the output's net
abbrev pub AllLines : List (Option FlatNet) → ℕ → List Line → Type 0
AllLines nets values [] = Unit {0}
AllLines nets values (l ∷ ls) = AllLiterals nets l.cube × IsOutput values l.out
    × AllLines nets values ls

-- each line's literals are a cube
abbrev pub AllCubes : List Line → Type 0
AllCubes [] = Unit {0}
AllCubes (l ∷ ls) = IsCube l.cube × AllCubes ls

-- a cover over the nets, whose output has this many values
pub record IsCover (nets : List (Option FlatNet)) (values : ℕ) (c : Cover) : Type 0 where
  pub cubes : AllCubes c.lines
  pub lines : AllLines nets values c.lines
  pub differ : lines_differ c.lines ≡ true
  pub default : (out : ℕ) → c.default ≡ Some out → IsOutput values out
  pub met : some_bare c.lines ≡ true → c.default ≡ None

-- only the output of a table or a reset table has a cover
abbrev pub has_table : Kind → Bool
has_table Input = false
has_table Latch = false
has_table Table = true
has_table Reset = true

-- value names: none, or one lawful name a value, all different and not just the numbers from 0
pub record IsNamed (values : ℕ) (names : List (List ℕ)) : Type 0 where
  pub lawful : list_all is_value_name names ≡ true
  pub differ : names_differ names ≡ true
  pub each : 0 < length names → length names ≡ values
  pub spelled : names ≡ map decimal (range_with_len 0 values) → names ≡ []

-- a net by itself
pub record IsNet (nets : List (Option FlatNet)) (f : FlatNet) : Type 0 where
  pub some : 0 < f.values
  pub few : f.values ≤ MAX_VALUES
  pub named : IsNamed f.values f.value_names
  pub name : (f.kind ≡ Reset → ⊥) → is_net_name f.name ≡ true
  pub table : is_some f.table ≡ has_table f.kind
  pub cover : (c : Cover) → f.table ≡ Some c → IsCover nets f.values c

-- the reset net of a latch: it is named by a full stop and the latch's name, and has the latch's
-- values and their names
pub record IsResetNet (nets : List (Option FlatNet)) (output n : ℕ) : Type 0 where
  pub kind : IsKind nets n Reset
  pub latch : FlatNet
  pub held : slot nets output ≡ Some latch
  pub name : kind.net.name ≡ 46 ∷ latch.name
  pub values : kind.net.values ≡ latch.values
  pub value_names : kind.net.value_names ≡ latch.value_names

-- a latch: its input can be read and has as many values as its output, and its reset net, if it has
-- one, is such a net
pub record IsLatch (nets : List (Option FlatNet)) (l : FlatLatch) : Type 0 where
  pub input : IsReadable nets l.input.0
  pub output : IsKind nets l.output.0 Latch
  pub values : values_in (slot nets l.input.0) ≡ values_in (slot nets l.output.0)
  pub reset : (n : NetId) → l.reset ≡ Some n → IsResetNet nets l.output.0 n.0

-- each of these is a latch
abbrev pub AllLatches : List (Option FlatNet) → List FlatLatch → Type 0
AllLatches nets [] = Unit {0}
AllLatches nets (l ∷ ls) = IsLatch nets l × AllLatches nets ls

-- the outputs of the latches, in order
abbrev pub latch_outputs : List FlatLatch → List NetId
latch_outputs ls = map (λ (l : FlatLatch). l.output) ls

-- the reset net, if there is one, before the others
abbrev pub with_reset : Option NetId → List NetId → List NetId
with_reset None ns = ns
with_reset (Some n) ns = n ∷ ns

-- the reset nets of the latches, in order
abbrev pub latch_resets : List FlatLatch → List NetId
latch_resets [] = []
latch_resets (l ∷ ls) = with_reset l.reset (latch_resets ls)

-- no latch output is above a reset net
pub record ResetsStandAlone (nets : List (Option FlatNet)) : Type 0 where
  pub none : (n m : ℕ) → IsKind nets n Latch → IsKind nets m Reset → IsAbove (reads_in nets) n m → ⊥

-- each net of a kind stands in the list, and each net of the list is of the kind
pub record AreKind (nets : List (Option FlatNet)) (kind : Kind) (list : List NetId) : Type 0 where
  pub all : (n : NetId) → IsKind nets n.0 kind → has_id list n.0 ≡ true
  pub only : (n : NetId) → has_id list n.0 ≡ true → IsKind nets n.0 kind
  pub once : all_differ list ≡ true

-- the parts of a network are well formed
pub record WellFormed (net : NetParts) : Type 0 where
  pub root : is_model_name net.root ≡ true
  pub nets : (n : ℕ) (f : FlatNet) → slot net.nets n ≡ Some f → IsNet net.nets f
  pub names : (n m : ℕ) (f g : FlatNet) → slot net.nets n ≡ Some f → slot net.nets m ≡ Some g
      → f.name ≡ g.name → n ≡ m
  pub inputs : AreKind net.nets Input net.inputs
  pub outputs : (n : NetId) → has_id net.outputs n.0 ≡ true → IsReadable net.nets n.0
  pub outputs_once : all_differ net.outputs ≡ true
  pub latches : AllLatches net.nets net.latches
  pub states : AreKind net.nets Latch (latch_outputs net.latches)
  pub resets : AreKind net.nets Reset (latch_resets net.latches)
  pub acyclic : IsAcyclic (reads_in net.nets)
  pub alone : ResetsStandAlone net.nets
