-- What private functions alone cite: lines put to their groups one by one, and the lines that are
-- products.
use Rattle.std.specs.Prelude.{◌≡◌, ℕ, ◌<◌, Bool, true, false, not, ◌&&◌, nat_eq, List, [], ◌∷◌, ◌++◌, map, filter, All, Contains}
use Rattle.std.specs.List.{list_any, flat_map, IsDistinct}
use Rattle.mv_base.specs.declared.number.NetId.{NetId}
use Rattle.mv_cover.specs.Literal.{Lit}
use Rattle.mv_cover.specs.Cubes.{IsCube}
use Rattle.mv_cover.specs.Equal.{line_eq}
use Rattle.mv_cover.specs.declared.line.Line.{Line}
use Rattle.mv_kernels.specs.Symbols.{has_each, cube_quotient}
use Rattle.mv_divide.specs.declared.part.Group.{Group}
use Rattle.mv_divide.specs.declared.part.Part.{Part}
use Rattle.mv_divide.specs.declared.quotient.Quotient.{Quotient}
use Rattle.mv_divide.specs.Tables.{outputs, cover_of, lines_for}

-- ---- groups

-- the group of an output set
abbrev pub group_of : List Line → ℕ → Group
group_of lines out = record { out = out; cubes = cover_of lines out }

-- the groups of these output sets
abbrev pub groups_by : List Line → List ℕ → List Group
groups_by lines outs = map (group_of lines) outs

-- these are the output sets of the lines, and their groups
pub record AreGrouped (lines : List Line) (outs : List ℕ) (groups : List Group) : Type 0 where
  pub distinct : IsDistinct nat_eq outs
  pub order : outs ≡ outputs lines
  pub each : groups ≡ groups_by lines outs

-- the group as a cover
abbrev pub as_part : Group → Part
as_part g = record { out = g.out; cover = g.cubes }

-- the group, and a cube more
abbrev pub with_cube : Group → List Lit → Group
with_cube g cube = record { out = g.out; cubes = g.cubes ++ cube ∷ [] }

-- ---- products

-- the nets of the literals come before n
abbrev pub AreBelow : NetId → List Lit → Type 0
AreBelow n cube = All (λ (l : Lit). l.net.0 < n.0) cube

-- the cubes of a quotient, with its output set
abbrev pub left_lines : Quotient → List Line
left_lines q = map (λ (s : List Lit). record { cube = s; out = q.out }) q.cubes

-- the cube of the line is one of the quotient of its cover
pub record IsLeftLine (quotients : List Quotient) (line : Line) : Type 0 where
  pub quotient : Quotient
  pub there : Contains quotients quotient
  pub out : quotient.out ≡ line.out
  pub cube : Contains quotient.cubes line.cube

-- the cubes of the quotients, each with its output set
pub record AreLeft (quotients : List Quotient) (left : List Line) : Type 0 where
  pub only : All (IsLeftLine quotients) left
  pub all : (l : Line) → IsLeftLine quotients l → Contains left l

-- the line without these symbols
abbrev pub line_left : List Lit → Line → Line
line_left d l = record { cube = cube_quotient d l.cube; out = l.out }

-- the line has each symbol of d, and without them is one of these
abbrev pub is_product_by : List Line → Line → List Lit → Bool
is_product_by left l d = has_each d l.cube && list_any (line_eq (line_left d l)) left

-- that is so of some cube of the divisor
abbrev pub is_product : List Line → List (List Lit) → Line → Bool
is_product left divisor l = list_any (is_product_by left l) divisor

-- the rest, with the line at its end unless it is a product
abbrev pub kept : List Line → Line → Bool → List Line
kept rest l true = rest
kept rest l false = rest ++ l ∷ []

-- the lines are those that are no products, and behind them those for the quotients
pub record AreMade (lines : List Line) (divisor : List (List Lit)) (n : NetId)
    (quotients : List Quotient) (new : List Line) : Type 0 where
  pub left : List Line
  pub are_left : AreLeft quotients left
  pub formed : All (λ (l : Line). IsCube l.cube) lines
  pub are : new
      ≡ filter (λ (l : Line). not (is_product left divisor l)) lines
      ++ flat_map (lines_for n) quotients
