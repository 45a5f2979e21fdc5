-- The cube of a row: where the nets of the columns have values that the row matches.
use Rattle.std.specs.Prelude.{◌≡◌, ℕ, ◌<◌, ◌≤◌, Bool, true, false, nat_lt, List, [], ◌∷◌, map, All}
use Rattle.std.specs.List.{list_all}
use Rattle.mv_base.specs.Set.{full, Within}
use Rattle.mv_base.specs.declared.limits.TheConstants.{MAX_VALUES}
use Rattle.mv_cover.specs.Literal.{Lit}
use Rattle.mv_cover.specs.Cubes.{matches, IsCube}
use Rattle.mv_cover.specs.Lines.{IsOutput}
use Rattle.mv_rows.specs.declared.column.Column.{Column}
use Rattle.mv_rows.specs.declared.column.Frame.{Frame}
use Rattle.mv_design.specs.Tables.{row_matches}
use Rattle.mv_rows.specs.Columns.{IsColumnOrder}

-- the values of the columns' nets
abbrev pub column_values : (ℕ → ℕ) → List Column → List ℕ
column_values at columns = map (λ (c : Column). at c.net.0) columns

-- each column's net has one of its values
abbrev pub in_range : (ℕ → ℕ) → List Column → Bool
in_range at columns = list_all (λ (c : Column). nat_lt (at c.net.0) c.count) columns

-- the columns say of each net how many values it has
abbrev pub CountBy : (ℕ → ℕ) → List Column → Type 0
CountBy count columns = All (λ (c : Column). c.count ≡ count c.net.0) columns

-- a column of a net with some values, and no more than a net may have
pub record IsColumn (c : Column) : Type 0 where
  pub some : 0 < c.count
  pub few : c.count ≤ MAX_VALUES

-- columns of which each is such, and those of one net say the same of it
pub record AreColumns (columns : List Column) : Type 0 where
  pub each : All IsColumn columns
  pub count : ℕ → ℕ
  pub counts : CountBy count columns

-- a set for each column, of values that its net has
abbrev pub FitRow : List Column → List ℕ → Type 0
FitRow [] [] = Unit {0}
FitRow [] (_ ∷ _) = ⊥
FitRow (_ ∷ _) [] = ⊥
FitRow (c ∷ columns) (s ∷ sets) = Within s (full c.count) × FitRow columns sets

-- some of the values that a net of this many values has, but not all
pub record IsPart (count set : ℕ) : Type 0 where
  pub values : IsOutput count set
  pub not_full : set ≡ full count → ⊥

-- each literal leaves its net some of its values, but not all
abbrev pub AreParts : (ℕ → ℕ) → List Lit → Type 0
AreParts count [] = Unit {0}
AreParts count (l ∷ ls) = IsPart (count l.net.0) l.set × AreParts count ls

-- values of the nets that the row matches
pub record HasPoint (columns : List Column) (sets : List ℕ) : Type 0 where
  pub at : ℕ → ℕ
  pub range : in_range at columns ≡ true
  pub there : row_matches sets (column_values at columns) ≡ true

-- the row matches no values of the nets
pub record HasNoPoint (columns : List Column) (sets : List ℕ) : Type 0 where
  pub nowhere : (at : ℕ → ℕ) → in_range at columns ≡ true
      → row_matches sets (column_values at columns) ≡ false

-- the cube holds where the row matches, and somewhere; each literal leaves its net some values, but
-- not all
pub record IsRowCube (columns : List Column) (sets : List ℕ) (cube : List Lit) : Type 0 where
  pub points : (at : ℕ → ℕ) → in_range at columns ≡ true
      → matches at cube ≡ row_matches sets (column_values at columns)
  pub point : HasPoint columns sets
  pub formed : IsCube cube
  pub parts : (count : ℕ → ℕ) → CountBy count columns → AreParts count cube

-- columns of a table, with an order that is theirs
pub record IsFrame (f : Frame) : Type 0 where
  pub columns : AreColumns f.columns
  pub ordered : IsColumnOrder f.columns f.order
