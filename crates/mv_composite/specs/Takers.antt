-- What is known of those that took lines: what private functions alone cite.
use Rattle.std.specs.Prelude.{◌≡◌, ◌⊎◌, ◌≤◌, ℕ, Bool, true, ◌||◌, Option, Some, None, List, ◌++◌, All, filter, nat_lt, if◌then◌else◌}
use Rattle.std.specs.List.{list_any}
use Rattle.mv_cover.specs.declared.line.Line.{Line}
use Rattle.mv_cover.specs.Cubes.{IsCube}
use Rattle.mv_cover.specs.Equal.{line_eq}
use Rattle.mv_cover.specs.Absorb.{line_lies, IsLeftOf}
use Rattle.mv_composite.specs.Puts.{Puts}
use Rattle.mv_composite.specs.Weights.{weight_of, IsCounted}

-- a line equal to this one is among them
abbrev pub is_among : List Line → Line → Bool
is_among ls l = list_any (line_eq l) ls

-- the same lines are among both
pub record HaveSameLines (a b : List Line) : Type 0 where
  pub same : (l : Line) → is_among a l ≡ is_among b l

-- more lines have come, of which those count that are among the others, which stay
pub record TakesPicked (others after old new more : List Line) : Type 0 where
  pub same : after ≡ others
  pub left : (ls : List Line) → IsLeftOf ls old → IsLeftOf (ls ++ filter (is_among others) more) new

-- ---- the lightest lines

-- the line is equal to the other, or lies in it
abbrev pub is_or_lies : Line → Line → Bool
is_or_lies a b = line_eq a b || line_lies a b

-- the lesser of both, or the second where there is no first
abbrev pub least_of : Option ℕ → ℕ → ℕ
least_of None b = b
least_of (Some a) b = if nat_lt a b then a else b

-- a line that is no heavier than the cap
pub record IsUpTo (cap : ℕ) (l : Line) : Type 0 where
  pub weighed : weight_of l ≤ cap
  pub counted : IsCounted l

-- a line that is no lighter than the cap
pub record IsFrom (cap : ℕ) (l : Line) : Type 0 where
  pub weighed : cap ≤ weight_of l
  pub cube : IsCube l.cube

-- a line that is no lighter than the cap, if there is one
abbrev pub IsHeavy : Option ℕ → Line → Type 0
IsHeavy None l = ⊥
IsHeavy (Some cap) l = IsFrom cap l

-- a line that is no heavier than the cap, or any where there is none
abbrev pub IsLight : Option ℕ → Line → Type 0
IsLight None l = Unit {0}
IsLight (Some cap) l = IsUpTo cap l

-- the line is, or lies in, one that is no lighter than the cap
pub record LiesBeyond (cap : ℕ) (l : Line) : Type 0 where
  pub over : Line
  pub lies : is_or_lies l over ≡ true
  pub from : IsFrom cap over

-- left are those of some of the lines, none of which is heavier than the cap; each line has a cube,
-- and is or lies in one of them, or in one that is no lighter than the cap
pub record AreLightest (ls left : List Line) (cap : ℕ) : Type 0 where
  pub formed : All (λ (l : Line). IsCube l.cube) ls
  pub some : List Line
  pub are_left : IsLeftOf some left
  pub from : (l : Line) → is_among some l ≡ true → is_among ls l ≡ true
  pub light : (l : Line) → is_among some l ≡ true → IsUpTo cap l
  pub covered : (l : Line) → is_among ls l ≡ true
      → (list_any (is_or_lies l) some ≡ true) ⊎ LiesBeyond cap l

-- what is left of all lines, or of the lightest where there is a cap
abbrev pub HasLightest : List Line → List Line → Option ℕ → Type 0
HasLightest ls left None = IsLeftOf ls left
HasLightest ls left (Some cap) = AreLightest ls left cap

-- the same of lines that are those of ls, in any order, however often each came
pub record IsSifted (ls left : List Line) (cap : Option ℕ) : Type 0 where
  pub came : List Line
  pub same : HaveSameLines came ls
  pub lightest : HasLightest came left cap

-- more lines have come, and the lightest of all are left
pub record KeepsLightest (old new : List Line) (before after : Option ℕ) (more : List Line)
    : Type 0 where
  pub left : (ls : List Line) → HasLightest ls old before → HasLightest (ls ++ more) new after

-- those of the lines were put that are no heavier than the cap
pub record PutsLight (cap : ℕ) (old new lines : List Line) : Type 0 where
  pub put : List Line
  pub left : Puts old new put
  pub from : (l : Line) → is_among put l ≡ true → is_among lines l ≡ true
  pub light : (l : Line) → is_among put l ≡ true → IsUpTo cap l
  pub rest : (l : Line) → is_among lines l ≡ true → (is_among put l ≡ true) ⊎ IsFrom cap l
