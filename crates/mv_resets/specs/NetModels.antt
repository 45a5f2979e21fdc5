-- Models with a net for each reset value: what the grammar and soundness make sure of in them.
use Rattle.std.specs.Prelude.{◌≡◌, ℕ, ◌+◌, ◌*◌, ◌<◌, ◌≤◌, Bool, true, false, ◌&&◌, ◌||◌, ◌==◌, Some, List, [], ◌∷◌, length, All}
use Rattle.std.specs.List.{list_all, flat_map}
use Rattle.mv_base.specs.Names.{among, is_net_name, is_model_name, is_value_name, names_differ}
use Rattle.mv_base.specs.declared.limits.TheConstants.{MAX_VALUES, MAX_FLAT_NETS, MAX_FLAT_NAME_BYTES}
use Rattle.mv_graph.specs.Above.{IsAbove, IsAcyclic}
use Rattle.mv_design.specs.declared.design.Decl.{Decl}
use Rattle.mv_design.specs.declared.design.FileModel.{FileModel}
use Rattle.mv_design.specs.declared.table.Entry.{Entry}
use Rattle.mv_design.specs.declared.table.FileTable.{FileTable}
use Rattle.mv_design.specs.Nets.{drivers, latch_outputs, nets_driven}
use Rattle.mv_design.specs.Values.{values_of}
use Rattle.mv_design.specs.Proper.{FitOutputs, IsFileLatch, IsFileRow}
use Rattle.mv_acyclic.specs.Sound.{reads, IsDrivenOnce}
use Rattle.mv_resets.specs.Resets.{reset_name}

-- a declaration has some values, and no more than a net may have, with lawful names, all different
pub record HasLawfulValues (d : Decl) : Type 0 where
  pub some : 0 < length d.values
  pub few : length d.values ≤ MAX_VALUES
  pub lawful : list_all is_value_name d.values ≡ true
  pub differ : names_differ d.values ≡ true

-- a table of some outputs, whose inputs have lawful names, and whose rows and default fit it;
-- several outputs have lawful names: none of them is a reset net
pub record IsNetTable (ds : List Decl) (t : FileTable) : Type 0 where
  pub inputs : list_all is_net_name t.inputs ≡ true
  pub some : 0 < length t.outputs
  pub several : 1 < length t.outputs → list_all is_net_name t.outputs ≡ true
  pub rows : All (IsFileRow ds t) t.rows
  pub default : (entries : List Entry) → t.default ≡ Some entries
      → FitOutputs ds t.inputs t.outputs entries

-- the name of a reset net: a full stop and a lawful name
abbrev pub is_reset_name : List ℕ → Bool
is_reset_name [] = false
is_reset_name (b ∷ bs) = (b == 46) && is_net_name bs

-- the name of a net of a file, or of a reset net
abbrev pub is_flat_name : List ℕ → Bool
is_flat_name w = is_net_name w || is_reset_name w

-- a reset net is that of a latch, and has the latch's values
pub record IsResetOf (m : FileModel) (latch : List ℕ) : Type 0 where
  pub listed : among latch (latch_outputs m) ≡ true
  pub values : values_of m.decls (reset_name latch) ≡ values_of m.decls latch

-- a model whose reset values have nets of their own
pub record IsNetModel (m : FileModel) : Type 0 where
  pub name : is_model_name m.name ≡ true
  pub inputs : list_all is_net_name m.inputs ≡ true
  pub inputs_differ : names_differ m.inputs ≡ true
  pub outputs : list_all is_net_name m.outputs ≡ true
  pub outputs_differ : names_differ m.outputs ≡ true
  pub latches : All (IsFileLatch m.decls) m.latches
  pub decls : All HasLawfulValues m.decls
  pub tables : All (IsNetTable m.decls) m.tables
  pub driven : list_all is_flat_name (flat_map nets_driven m.tables) ≡ true
  pub resets : (latch : List ℕ) → among (reset_name latch) (drivers m) ≡ true → IsResetOf m latch

-- its nets are sound: each is driven once, none is above itself, and no latch's output above a
-- reset net
pub record HasSoundNets (m : FileModel) : Type 0 where
  pub once : IsDrivenOnce m
  pub acyclic : IsAcyclic (reads m)
  pub alone : (latch reset : List ℕ) → among latch (latch_outputs m) ≡ true
      → among (reset_name reset) (drivers m) ≡ true
      → IsAbove (reads m) latch (reset_name reset) → ⊥

-- and there aren't too many, nor are their names too long; the name of a reset net has one byte
-- more
pub record HasFewNets (m : FileModel) : Type 0 where
  pub few : length (drivers m) ≤ 2 * MAX_FLAT_NETS
  pub short : (w : List ℕ) → among w (drivers m) ≡ true → length w ≤ MAX_FLAT_NAME_BYTES + 1
