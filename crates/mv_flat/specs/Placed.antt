-- Models whose nets have numbers, and the nets of their tables behind others. For private
-- functions.
use Rattle.std.specs.Prelude.{◌≡◌, ℕ, ◌+◌, ◌*◌, ◌≤◌, Bool, true, Option, List, ◌++◌, length, All}
use Rattle.std.specs.List.{list_all}
use Rattle.mv_base.specs.Names.{among}
use Rattle.mv_base.specs.declared.limits.TheConstants.{MAX_NETS}
use Rattle.mv_design.specs.declared.design.Decl.{Decl}
use Rattle.mv_design.specs.declared.design.FileModel.{FileModel}
use Rattle.mv_design.specs.declared.table.FileTable.{FileTable}
use Rattle.mv_design.specs.Nets.{drivers}
use Rattle.mv_rows.specs.declared.column.Column.{Column}
use Rattle.mv_resets.specs.NetModels.{HasLawfulValues, IsNetTable}
use Rattle.mv_net.specs.declared.parts.FlatNet.{FlatNet}
use Rattle.mv_flat.specs.Numbers.{columns_at}
use Rattle.mv_flat.specs.Places.{net_places}
use Rattle.mv_flat.specs.Built.{AreTables}

-- each of these nets has a number
abbrev pub are_known : List (List ℕ) → List (List ℕ) → Bool
are_known names nets = list_all (λ net. among net names) nets

-- a table whose input columns have numbers
pub record IsPlacedTable (ds : List Decl) (names : List (List ℕ)) (t : FileTable) : Type 0 where
  pub fits : IsNetTable ds t
  pub known : are_known names t.inputs ≡ true

-- the columns of such a table, by these numbers
pub record AreColumnsOf (names : List (List ℕ)) (t : FileTable) (columns : List Column)
    : Type 0 where
  pub decls : List Decl
  pub proper : All HasLawfulValues decls
  pub placed : IsPlacedTable decls names t
  pub are : columns ≡ columns_at decls names t

-- the names are those of a model's nets by number, with the columns of its tables among them
pub record ArePlaced (m : FileModel) (names : List (List ℕ)) : Type 0 where
  pub are : names ≡ net_places m
  pub few : length names ≤ MAX_NETS
  pub driven : length (drivers m) + 2 * length m.tables ≤ 3 * MAX_NETS
  pub tables : All (IsPlacedTable m.decls names) m.tables

-- nets with those of the model's tables behind them
pub record AddsTables (m : FileModel) (old new : List (Option FlatNet)) : Type 0 where
  pub here : List (Option FlatNet)
  pub joined : new ≡ old ++ here
  pub are : AreTables m.decls (net_places m) m.tables (drivers m) here
