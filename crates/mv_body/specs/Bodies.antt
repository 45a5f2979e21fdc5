-- A rule's body, which names nets, as a cover over the numbers of a network, and when a rule may
-- take it.
use Rattle.std.specs.Prelude.{◌≡◌, ℕ, ◌≤◌, true, nat_eq, Option, Some, None, List, [], ◌∷◌, map, position, unwrap_or, count_by, All}
use Rattle.std.specs.List.Sorted.{IsPermutation, IsNonDecreasingBy}
use Rattle.mv_base.specs.Set.{one}
use Rattle.mv_cover.specs.Literal.{Lit}
use Rattle.mv_cover.specs.declared.line.Line.{Line}
use Rattle.mv_cover.specs.declared.cover.Cover.{Cover}
use Rattle.mv_cover.specs.Absorb.{some_bare}
use Rattle.mv_cover.specs.Lines.{IsOutput, lines_differ}
use Rattle.mv_cover.specs.Sharp.{with_literal}
use Rattle.mv_net.specs.declared.parts.FlatNet.{FlatNet}
use Rattle.mv_net.specs.Index.{HasName}
use Rattle.mv_net.specs.Formed.{IsReadable, IsLiteral, IsCover}
use Rattle.mv_net.specs.Fresh.{is_named}
use Rattle.mv_entry.specs.declared.rule.BodyLit.{BodyLit}
use Rattle.mv_entry.specs.declared.rule.BodyLine.{BodyLine}
use Rattle.mv_entry.specs.declared.rule.Body.{Body}

-- the first number whose net has the name
unfoldable pub number_named : List (Option FlatNet) → List ℕ → Option ℕ
number_named nets name = position (is_named name) nets

-- ---- what a body says

-- a literal over numbers: on the net with the name, and on the number 0 where there is none
abbrev pub literal_said : List (Option FlatNet) → BodyLit → Lit
literal_said nets l =
    record { net = record { 0 = unwrap_or (number_named nets l.net) 0 }; set = l.set }

-- the literals over numbers, as they stand
abbrev pub literals_said : List (Option FlatNet) → List BodyLit → List Lit
literals_said nets ls = map (literal_said nets) ls

-- literals by ascending net: each put in at its net, the first one last
abbrev pub by_net : List Lit → List Lit
by_net [] = []
by_net (l ∷ ls) = with_literal l (by_net ls)

-- the cube of a line
abbrev pub cube_said : List (Option FlatNet) → List BodyLit → List Lit
cube_said nets ls = by_net (literals_said nets ls)

-- a line over numbers
abbrev pub line_said : List (Option FlatNet) → BodyLine → Line
line_said nets l = record { cube = cube_said nets l.lits; out = l.out }

-- the lines over numbers
abbrev pub lines_said : List (Option FlatNet) → List BodyLine → List Line
lines_said nets ls = map (line_said nets) ls

-- the cover that a body says
abbrev pub cover_said : List (Option FlatNet) → Body → Cover
cover_said nets b = record { lines = lines_said nets b.lines; default = b.default }

-- ---- which bodies a rule may take

-- a literal names a held net that can be read: it isn't a reset net
pub record IsKnown (nets : List (Option FlatNet)) (l : BodyLit) : Type 0 where
  pub number : ℕ
  pub named : HasName nets number l.net
  pub readable : IsReadable nets number

-- each literal of a line names such a net
abbrev pub IsLineKnown : List (Option FlatNet) → BodyLine → Type 0
IsLineKnown nets l = All (IsKnown nets) l.lits

-- each literal of a body names such a net
pub record AreKnown (nets : List (Option FlatNet)) (b : Body) : Type 0 where
  pub each : All (IsLineKnown nets) b.lines

-- no two of the literals are on one net
pub record AreApart (ls : List Lit) : Type 0 where
  pub each : (n : ℕ) → count_by (λ (l : Lit). nat_eq l.net.0 n) ls ≤ 1

-- no two literals of a line are on one net
pub record IsOnce (nets : List (Option FlatNet)) (l : BodyLine) : Type 0 where
  pub apart : AreApart (literals_said nets l.lits)

-- a tidy body for a net of so many values: no line names a net twice, and the cover that it says
-- may be that of a net
pub record IsTidy (nets : List (Option FlatNet)) (values : ℕ) (b : Body) : Type 0 where
  pub once : All (IsOnce nets) b.lines
  pub cover : IsCover nets values (cover_said nets b)

-- a body that says where a net is 1: each line gives 1, and the default is 0
pub record IsChoice (b : Body) : Type 0 where
  pub lines : All (λ (l : BodyLine). l.out ≡ one 1) b.lines
  pub default : b.default ≡ Some (one 0)

-- ---- what private functions alone cite

-- the literals in another order, by net
pub record IsByNet (before after : List Lit) : Type 0 where
  pub moved : IsPermutation before after
  pub up : IsNonDecreasingBy (λ (l : Lit). l.net.0) after

-- these are the literals that are said, and each is one that a net may have
pub record AreLiterals (nets : List (Option FlatNet)) (ls : List BodyLit) (said : List Lit)
    : Type 0 where
  pub is : said ≡ literals_said nets ls
  pub each : All (IsLiteral nets) said

-- literals of a line of a tidy body
pub record IsTidyCube (nets : List (Option FlatNet)) (ls : List BodyLit) : Type 0 where
  pub apart : AreApart (literals_said nets ls)
  pub each : All (IsLiteral nets) (literals_said nets ls)

-- a line of a tidy body
pub record IsTidyLine (nets : List (Option FlatNet)) (values : ℕ) (l : BodyLine) : Type 0 where
  pub cube : IsTidyCube nets l.lits
  pub out : IsOutput values l.out

-- lines of a tidy body
pub record AreTidyLines (nets : List (Option FlatNet)) (values : ℕ) (ls : List BodyLine)
    : Type 0 where
  pub each : All (IsTidyLine nets values) ls
  pub differ : lines_differ (lines_said nets ls) ≡ true

-- a default that may stand beside the lines
pub record IsDefaultBeside (values : ℕ) (default : Option ℕ) (lines : List Line) : Type 0 where
  pub set : (out : ℕ) → default ≡ Some out → IsOutput values out
  pub met : some_bare lines ≡ true → default ≡ None
