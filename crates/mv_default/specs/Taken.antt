-- A table in which a default stands for the lines of one value: of the one whose lines have the
-- most literals.
use Rattle.std.specs.Prelude.{◌≡◌, ℕ, ◌<◌, ◌≤◌, not, nat_eq, Option, Some, None, List}
use Rattle.std.specs.List.{All, filter}
use Rattle.mv_base.specs.Set.{one}
use Rattle.mv_cover.specs.declared.line.Line.{Line}
use Rattle.mv_cover.specs.declared.cover.Cover.{Cover}
use Rattle.mv_cover.specs.Covers.{literal_count}
use Rattle.mv_cover.specs.Cubes.{IsCube}

-- the lines that give this value alone
abbrev pub lines_of_value : ℕ → List Line → List Line
lines_of_value v ls = filter (λ (l : Line). nat_eq l.out (one v)) ls

-- the other lines
abbrev pub lines_of_others : ℕ → List Line → List Line
lines_of_others v ls = filter (λ (l : Line). not (nat_eq l.out (one v))) ls

-- the literals of the lines that give this value alone
abbrev pub literals_of_value : ℕ → List Line → ℕ
literals_of_value v ls = literal_count (lines_of_value v ls)

-- the value whose lines have the most literals, the least of them where there are several
pub record IsCostliest (ls : List Line) (v : ℕ) : Type 0 where
  pub most : (u : ℕ) → literals_of_value u ls ≤ literals_of_value v ls
  pub least : (u : ℕ) → u < v → literals_of_value u ls < literals_of_value v ls

-- the cover with this value as default in place of its lines
abbrev pub with_default : ℕ → Cover → Cover
with_default v c = record { lines = lines_of_others v c.lines; default = Some (one v) }

-- some line has a literal, and the new cover has the costliest value as its default
pub record TakesDefault (old new : Cover) : Type 0 where
  pub literal : 0 < literal_count old.lines
  pub value : ℕ
  pub costliest : IsCostliest old.lines value
  pub is : new ≡ with_default value old

-- what taking a default gives: None where no line has a literal
abbrev pub IsDefaulted : Cover → Option Cover → Type 0
IsDefaulted old None = literal_count old.lines ≡ 0
IsDefaulted old (Some new) = TakesDefault old new

-- each line's literals are a cube
pub record HasCubes (c : Cover) : Type 0 where
  pub each : All (λ (l : Line). IsCube l.cube) c.lines
