-- Covers that allow one value at most, as one sees by looking at two lines at a time.
use Rattle.std.specs.Prelude.{◌≡◌, ℕ, true, Option, Some, None, All, count_ones}
use Rattle.mv_cover.specs.declared.line.Line.{Line}
use Rattle.mv_cover.specs.declared.cover.Cover.{Cover}
use Rattle.mv_cover.specs.Cubes.{matches}
use Rattle.mv_cover.specs.Covers.{allowed}

-- where both lines' cubes hold, they give the same set
pub record Agree (a b : Line) : Type 0 where
  pub same : (at : ℕ → ℕ) → matches at a.cube ≡ true → matches at b.cube ≡ true → a.out ≡ b.out

-- a line gives one value
abbrev pub GivesOne : Line → Type 0
GivesOne l = count_ones l.out ≡ 1

-- a default, if there is one, is one value
abbrev pub IsOneDefault : Option ℕ → Type 0
IsOneDefault None = Unit {0}
IsOneDefault (Some out) = count_ones out ≡ 1

-- each line and the default give one value, and lines that can hold together the same one
pub record IsPlainlyDeterministic (c : Cover) : Type 0 where
  pub single : All GivesOne c.lines
  pub default : IsOneDefault c.default
  pub apart : All (λ l. All (Agree l) c.lines) c.lines

-- no two values are allowed at one assignment
pub record AllowsOne (c : Cover) : Type 0 where
  pub one : (at : ℕ → ℕ) (u v : ℕ) → allowed c at u ≡ true → allowed c at v ≡ true → u ≡ v
