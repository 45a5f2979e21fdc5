-- What a net of two values stands for in the tables that read it: the cubes of its own lines.
use Rattle.std.specs.Prelude.{◌≡◌, ℕ, ◌++◌, Bool, true, false, nat_eq, Option, Some, None, List, [], ◌∷◌, All, if◌then◌else◌}
use Rattle.std.specs.List.{list_any, flat_map}
use Rattle.mv_base.specs.Set.{one}
use Rattle.mv_cover.specs.declared.line.Line.{Line}
use Rattle.mv_cover.specs.declared.cover.Cover.{Cover}
use Rattle.mv_cover.specs.Cofactors.{cube_without}
use Rattle.mv_cover.specs.Complement.{lines_for}
use Rattle.mv_cover.specs.Equal.{line_eq}
use Rattle.mv_cover.specs.Meets.{literal_at, met}
use Rattle.mv_net.specs.declared.parts.FlatNet.{FlatNet}
use Rattle.mv_net.specs.Nets.{slot, values_in, table_in}

-- the net has two values, and this table: 1 where a line holds, and else 0
pub record IsDividing (nets : List (Option FlatNet)) (d : ℕ) (inner : Cover) : Type 0 where
  pub table : table_in (slot nets d) ≡ Some inner
  pub two : values_in (slot nets d) ≡ 2
  pub ones : All (λ (l : Line). l.out ≡ one 1) inner.lines
  pub zero : inner.default ≡ Some (one 0)

-- the net has two values, and some such table
pub record IsDivisorNet (nets : List (Option FlatNet)) (d : ℕ) : Type 0 where
  pub inner : Cover
  pub dividing : IsDividing nets d inner

-- the set of a literal, if there is one, is that of the value 1 alone
abbrev pub asks_one : Option ℕ → Bool
asks_one None = false
asks_one (Some set) = nat_eq set (one 1)

-- what a line stands for where the net d is 1 exactly where one of these lines' cubes holds: with
-- the literal `d = 1` one line for each of the cubes, met with the rest, and none where the two
-- don't meet; without it the line itself
abbrev pub line_expanded : ℕ → List Line → Line → List Line
line_expanded d inner l =
    if asks_one (literal_at l.cube d) then flat_map
    (λ (k : Line). lines_for l.out (met (cube_without d l.cube) k.cube)) inner
    else l ∷ []

-- the lines that lines stand for
abbrev pub expanded : ℕ → List Line → List Line → List Line
expanded d inner ls = flat_map (line_expanded d inner) ls

-- each line stands in both lists or in none
pub record AreSameLines (a b : List Line) : Type 0 where
  pub same : (l : Line) → list_any (line_eq l) a ≡ list_any (line_eq l) b

-- the body has the table's default, and stands for its lines
pub record IsDivided (d : ℕ) (inner old body : Cover) : Type 0 where
  pub default : body.default ≡ old.default
  pub lines : AreSameLines (expanded d inner.lines body.lines) old.lines

-- ---- what private functions alone cite

-- these lines were found besides those that were found before, and each of them is wanted
pub record HasFound (wanted old lines new : List Line) : Type 0 where
  pub found : (l : Line) → list_any (line_eq l) new ≡ list_any (line_eq l) (old ++ lines)
  pub among : (l : Line) → list_any (line_eq l) lines ≡ true → list_any (line_eq l) wanted ≡ true

-- one of these lines isn't wanted
pub record HasMissed (wanted lines : List Line) : Type 0 where
  pub line : Line
  pub there : list_any (line_eq line) lines ≡ true
  pub missed : list_any (line_eq line) wanted ≡ false
