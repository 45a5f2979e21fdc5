-- Lines that a cover can do without, by the rule: equal lines, then lines within others, then a
-- default that never counts.
use Rattle.std.specs.Prelude.{◌≡◌, ℕ, Bool, ◌&&◌, not, nat_eq, Option, None, List, [], ◌∷◌, ◌++◌, length, filter, All, if◌then◌else◌}
use Rattle.std.specs.List.{list_any}
use Rattle.mv_base.specs.Firsts.{firsts_by}
use Rattle.mv_cover.specs.declared.line.Line.{Line}
use Rattle.mv_cover.specs.declared.cover.Cover.{Cover}
use Rattle.mv_cover.specs.Cubes.{IsCube}
use Rattle.mv_cover.specs.Containing.{set_within, lies_in}
use Rattle.mv_cover.specs.Equal.{line_eq}

-- the lines without those that are equal to an earlier one
abbrev pub firsts : List Line → List Line
firsts ls = firsts_by line_eq ls

-- the output lies in the other's output, and the cube in its cube
abbrev pub line_lies : Line → Line → Bool
line_lies a b = set_within a.out b.out && lies_in a.cube b.cube

-- the line lies in a line that isn't equal to it
abbrev pub swallowed_by : Line → Line → Bool
swallowed_by a b = line_lies a b && not (line_eq a b)

-- the lines without those that lie in another of them
abbrev pub unswallowed : List Line → List Line
unswallowed ls = filter (λ l. not (list_any (swallowed_by l) ls)) ls

-- the lines that absorbing leaves
unfoldable pub left_of : List Line → List Line
left_of ls = unswallowed (firsts ls)

-- what absorbing leaves of these lines, each of which has a cube
pub record IsLeftOf (ls left : List Line) : Type 0 where
  pub formed : All (λ l. IsCube l.cube) ls
  pub lines : left ≡ left_of ls

-- some line has no literal, so that its cube always holds
abbrev pub some_bare : List Line → Bool
some_bare ls = list_any (λ l. nat_eq (length l.cube) 0) ls

-- the default, unless some line has no literal
abbrev pub default_beside : List Line → Option ℕ → Option ℕ
default_beside ls default = if some_bare ls then None else default

-- the cover without equal lines, then without lines that lie in others, then without a default that
-- never counts
unfoldable pub absorbed : Cover → Cover
absorbed c =
    record { lines = left_of c.lines; default = default_beside (left_of c.lines) c.default }

-- ---- what private functions alone cite

-- a line more: it goes where it lies in one that is left; else those that lie in it go, and it
-- comes last
unfoldable pub with_line : List Line → Line → List Line
with_line left x = if list_any (line_lies x) left then left
    else filter (λ l. not (line_lies l x)) left ++ x ∷ []
