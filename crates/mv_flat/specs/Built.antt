-- The network of a model with a net for each reset value: a net for each input and for each latch,
-- and for each table a net for each output, and before these a net for the mark that its default
-- may need, and one for the choice between the rows of several outputs.
use Rattle.std.specs.Prelude.{◌≡◌, ℕ, ◌<◌, ◌^◌, true, false, Option, Some, None, List, [], ◌∷◌, ◌++◌, ◌==◌, map, option_map, if◌then◌else◌}
use Rattle.mv_base.specs.Names.{among, place_of}
use Rattle.mv_base.specs.declared.number.NetId.{NetId}
use Rattle.mv_cover.specs.declared.cover.Cover.{Cover}
use Rattle.mv_design.specs.declared.design.Decl.{Decl}
use Rattle.mv_design.specs.declared.design.FileModel.{FileModel}
use Rattle.mv_design.specs.declared.table.FileTable.{FileTable}
use Rattle.mv_design.specs.Values.{values_of, count_of}
use Rattle.mv_flat.specs.declared.covers.TableCovers.{TableCovers}
use Rattle.mv_flat.specs.Covers.{MadeNet, made_of, outputs_of, IsMadeTable}
use Rattle.mv_design.specs.declared.design.FileLatch.{FileLatch}
use Rattle.mv_design.specs.Nets.{drivers, latch_outputs}
use Rattle.mv_flat.specs.Places.{net_places}
use Rattle.mv_acyclic.specs.Numbers.{net_in}
use Rattle.mv_net.specs.declared.parts.Kind.{Kind}
use Rattle.mv_net.specs.declared.parts.Kind.TheVariants.{Input, Latch, Table, Reset}
use Rattle.mv_net.specs.declared.parts.FlatNet.{FlatNet}
use Rattle.mv_net.specs.declared.parts.FlatLatch.{FlatLatch}
use Rattle.mv_net.specs.declared.parts.NetParts.{NetParts}
use Rattle.mv_flat.specs.Numbers.{columns_at, mark_at, choice_at, kept_names, made_name}
use Rattle.mv_resets.specs.Resets.{reset_name}

-- what the net of a table's output is: a reset net, where its name begins with a full stop
abbrev pub kind_of : List ℕ → Kind
kind_of [] = Table
kind_of (b ∷ bs) = if b == 46 then Reset else Table

-- a net of the model
abbrev pub file_net : List Decl → Kind → Option Cover → List ℕ → Option FlatNet
file_net ds kind table net =
    Some (record {
      name = net;
      values = count_of ds net;
      value_names = kept_names (values_of ds net);
      kind = kind;
      table = table;
    })

-- a net that is made
abbrev pub fresh_net : List ℕ → MadeNet → Option FlatNet
fresh_net name made =
    Some (record {
      name = name;
      values = made.values;
      value_names = [];
      kind = Table;
      table = Some made.cover;
    })

-- the nets of outputs with these covers
abbrev pub output_nets : List Decl → List (List ℕ) → List Cover → List (Option FlatNet)
output_nets ds (w ∷ ws) (c ∷ cs) = file_net ds (kind_of w) (Some c) w ∷ output_nets ds ws cs
output_nets ds [] cs = []
output_nets ds (w ∷ ws) [] = []

-- the name is that of the least positive number whose name isn't held
pub record IsFreshName (held : List (List ℕ)) (name : List ℕ) : Type 0 where
  pub number : ℕ
  pub is : name ≡ made_name number
  pub positive : 0 < number
  pub small : number < 2 ^ 32
  pub fresh : among name held ≡ false
  pub least : (k : ℕ) → 0 < k → k < number → among (made_name k) held ≡ true

-- nothing is made, and the same names are held
pub record IsNoneMade (held : List (List ℕ)) (nets : List (Option FlatNet)) (after : List (List ℕ))
    : Type 0 where
  pub nets_are : nets ≡ []
  pub after_is : after ≡ held

-- a net is made with a fresh name, which is held from then on, and the others behind it
pub record IsOneMade (Rest : List (List ℕ) → List (Option FlatNet) → List (List ℕ) → Type 0)
    (held : List (List ℕ)) (made : MadeNet)
    (nets : List (Option FlatNet)) (after : List (List ℕ)) : Type 0 where
  pub name : List ℕ
  pub fresh : IsFreshName held name
  pub rest : List (Option FlatNet)
  pub are_rest : Rest (held ++ name ∷ []) rest after
  pub nets_are : nets ≡ fresh_net name made ∷ rest

-- what becomes of the nets that are made, behind the names that are held: one after the other
abbrev pub AreMade : List MadeNet → List (List ℕ) → List (Option FlatNet) → List (List ℕ) → Type 0
AreMade [] held nets after = IsNoneMade held nets after
AreMade (made ∷ more) held nets after = IsOneMade (AreMade more) held made nets after

-- the nets of a table, behind the names that are held
pub record AreTableNets (ds : List Decl) (names held : List (List ℕ)) (t : FileTable)
    (nets : List (Option FlatNet)) (after : List (List ℕ)) : Type 0 where
  pub covers : TableCovers
  pub are : IsMadeTable (columns_at ds names t) t (mark_at names t) (choice_at names t) covers
  pub made : List (Option FlatNet)
  pub are_made : AreMade (made_of covers) held made after
  pub nets_are : nets ≡ made ++ output_nets ds t.outputs (outputs_of covers)

-- some nets, and others behind them that know of their names
pub record AreFollowed (Here : List (Option FlatNet) → List (List ℕ) → Type 0)
    (Behind : List (List ℕ) → List (Option FlatNet) → Type 0)
    (nets : List (Option FlatNet)) : Type 0 where
  pub here : List (Option FlatNet)
  pub rest : List (Option FlatNet)
  pub after : List (List ℕ)
  pub are_here : Here here after
  pub are_rest : Behind after rest
  pub joined : nets ≡ here ++ rest

-- the nets of tables, one table after the other
abbrev pub AreTables : List Decl → List (List ℕ) → List FileTable → List (List ℕ)
    → List (Option FlatNet) → Type 0
AreTables ds names [] held nets = nets ≡ []
AreTables ds names (t ∷ ts) held nets =
    AreFollowed (AreTableNets ds names held t) (AreTables ds names ts) nets

-- the number of a latch's reset net, where it has one
abbrev pub reset_in : List (List ℕ) → List ℕ → Option NetId
reset_in names latch = option_map (λ n. record { 0 = n }) (place_of (reset_name latch) names)

-- a latch by the numbers of its nets
abbrev pub flat_latch : List (List ℕ) → FileLatch → FlatLatch
flat_latch names l =
    record {
      input = net_in names l.input;
      output = net_in names l.output;
      reset = reset_in names l.output;
    }

-- the nets that have no table: the inputs and the outputs of the latches
abbrev pub open_nets : FileModel → List (Option FlatNet)
open_nets m = map (file_net m.decls Input None) m.inputs
    ++ map (file_net m.decls Latch None) (latch_outputs m)

-- the parts of a model's network
pub record IsBuilt (m : FileModel) (net : NetParts) : Type 0 where
  pub root : net.root ≡ m.name
  pub inputs : net.inputs ≡ map (net_in (net_places m)) m.inputs
  pub outputs : net.outputs ≡ map (net_in (net_places m)) m.outputs
  pub latches : net.latches ≡ map (flat_latch (net_places m)) m.latches
  pub of_tables : List (Option FlatNet)
  pub are_tables : AreTables m.decls (net_places m) m.tables (drivers m) of_tables
  pub nets_are : net.nets ≡ open_nets m ++ of_tables
