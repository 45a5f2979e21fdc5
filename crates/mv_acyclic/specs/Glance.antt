-- What is known of a model that is found to be sound while its nets get numbers.
use Rattle.std.specs.Prelude.{◌≡◌, ◌≤◌, ◌&&◌, ℕ, Bool, true, nat_le, List, length}
use Rattle.std.specs.List.{list_all}
use Rattle.mv_base.specs.Names.{among, names_differ}
use Rattle.mv_base.specs.declared.limits.TheConstants.{MAX_FLAT_NETS, MAX_FLAT_NAME_BYTES}
use Rattle.mv_design.specs.declared.design.FileLatch.{FileLatch}
use Rattle.mv_design.specs.declared.design.FileModel.{FileModel}
use Rattle.mv_design.specs.declared.table.FileTable.{FileTable}
use Rattle.mv_design.specs.Nets.{drivers}
use Rattle.mv_acyclic.specs.Sound.{IsSoundModel, IsWithinLimits}

-- the model is sound and within the limits, and these are its driven nets
pub record IsKnownSound (m : FileModel) (driven : List (List ℕ)) : Type 0 where
  pub sound : IsSoundModel m
  pub limits : IsWithinLimits m
  pub is : driven ≡ drivers m

-- ---- what private functions alone cite

-- a name isn't too long
abbrev pub is_short : List ℕ → Bool
is_short w = nat_le (length w) MAX_FLAT_NAME_BYTES

-- these are the drivers of the model, none of them stands twice, and they pass no limit
pub record AreApartDrivers (m : FileModel) (names : List (List ℕ)) : Type 0 where
  pub is : names ≡ drivers m
  pub differ : names_differ names ≡ true
  pub few : length names ≤ MAX_FLAT_NETS
  pub short : list_all is_short names ≡ true

-- all of these are among the names
abbrev pub are_known : List (List ℕ) → List (List ℕ) → Bool
are_known names ws = list_all (λ w. among w names) ws

-- so are the inputs of the table; and its outputs too
abbrev pub inputs_known : List (List ℕ) → FileTable → Bool
inputs_known names t = are_known names t.inputs

abbrev pub columns_known : List (List ℕ) → FileTable → Bool
columns_known names t = are_known names t.inputs && are_known names t.outputs

-- so is the input of the latch
abbrev pub input_known : List (List ℕ) → FileLatch → Bool
input_known names l = among l.input names

-- so are all nets that the model names, but for the columns of tables
pub record AreOthersKnown (names : List (List ℕ)) (m : FileModel) : Type 0 where
  pub outputs : are_known names m.outputs ≡ true
  pub latches : list_all (input_known names) m.latches ≡ true
  pub resets : list_all (columns_known names) m.resets ≡ true
