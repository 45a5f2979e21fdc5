-- What private functions alone cite: the tables of a network as the lists of their covers.
use Rattle.std.specs.Prelude.{◌≡◌, ◌<◌, ◌≤◌, ◌^◌, ℕ, true, Option, List, [], slice_index_or, length, All, Contains}
use Rattle.std.specs.List.{sum_by, IsDistinct}
use Rattle.mv_base.specs.declared.limits.TheConstants.{MAX_NETS}
use Rattle.mv_cover.specs.Literal.{Lit}
use Rattle.mv_cover.specs.Cubes.{IsCube}
use Rattle.mv_cover.specs.Equal.{cube_eq}
use Rattle.mv_cover.specs.Lines.{lines_differ}
use Rattle.mv_cover.specs.declared.line.Line.{Line}
use Rattle.mv_net.specs.declared.parts.FlatNet.{FlatNet}
use Rattle.mv_divide.specs.declared.part.Part.{Part}
use Rattle.mv_saving.specs.Saving.{IsSaving, literals}
use Rattle.mv_gains.specs.Gains.{lines_at, IsSum}
use Rattle.mv_gains.specs.Holders.{AreHolders}

-- the lines of the net's table are distinct, and their literals are cubes
pub record HasLines (f : Option FlatNet) : Type 0 where
  pub differ : lines_differ (lines_at f) ≡ true
  pub formed : All (λ (l : Line). IsCube l.cube) (lines_at f)

-- the literals of the covers
abbrev pub literals_of : List Part → ℕ
literals_of parts = sum_by (λ (p : Part). literals p.cover) parts

-- what dividing the covers of a table by the divisor saves
abbrev pub IsPartsSaving : List (List Lit) → List Part → ℕ → Type 0
IsPartsSaving divisor parts saved =
    IsSum (λ (p : Part) (s : ℕ). IsSaving p.cover divisor s) parts saved

-- what dividing the tables by the divisor saves
abbrev pub IsTablesGain : List (List Part) → List (List Lit) → ℕ → Type 0
IsTablesGain tables divisor gain = IsSum (IsPartsSaving divisor) tables gain

-- what dividing the table at the place saves
abbrev pub IsSavingAt : List (List Part) → List (List Lit) → ℕ → ℕ → Type 0
IsSavingAt tables divisor place saved = IsPartsSaving divisor (slice_index_or tables place []) saved

-- what dividing the tables at these places saves
abbrev pub IsGainAt : List (List Part) → List ℕ → List (List Lit) → ℕ → Type 0
IsGainAt tables places divisor gain = IsSum (IsSavingAt tables divisor) places gain

-- covers of a table: each cube stands once in its cover, and memory holds their literals
pub record IsReady (parts : List Part) : Type 0 where
  pub distinct : All (λ (p : Part). IsDistinct cube_eq p.cover) parts
  pub formed : All (λ (p : Part). All IsCube p.cover) parts
  pub few : literals_of parts ≤ 2 ^ 96

-- some cube of a cover has the literal
pub record HasLiteral (l : Lit) (parts : List Part) : Type 0 where
  pub part : Part
  pub there : Contains parts part
  pub cube : List Lit
  pub held : Contains part.cover cube
  pub has : Contains cube l

-- each literal of the line is among these
abbrev pub HasAllOf : List Lit → Line → Type 0
HasAllOf found line = All (Contains found) line.cube

-- covers of tables, and for each literal the places of the tables that have it
pub record AreKept (tables : List (List Part)) (places : Lit → List ℕ) : Type 0 where
  pub ready : All IsReady tables
  pub held : (l : Lit) → AreHolders (HasLiteral l) tables (places l)
  pub few : length tables ≤ MAX_NETS

-- some distinct cubes of some literals
pub record IsDivisor (divisor : List (List Lit)) : Type 0 where
  pub some : 0 < length divisor
  pub literals : All (λ (c : List Lit). 0 < length c) divisor
  pub distinct : IsDistinct cube_eq divisor
  pub formed : All IsCube divisor

-- the tables' gain by the divisor, and no other number is
pub record IsOnlyGain (tables : List (List Part)) (divisor : List (List Lit)) (gain : ℕ)
    : Type 0 where
  pub is : IsTablesGain tables divisor gain
  pub only : (g : ℕ) → IsTablesGain tables divisor g → g ≡ gain
