-- The complement of lines, as cubes without common points, and a cover whose default is spelled
-- out.
use Rattle.std.specs.Prelude.{◌≡◌, ◌<◌, ◌≤◌, ℕ, Option, Some, None, List, [], ◌∷◌, ◌++◌, map, length, take, All}
use Rattle.std.specs.List.{fold, flat_map}
use Rattle.mv_base.specs.declared.limits.TheConstants.{MAX_COMPLEMENT_CUBES}
use Rattle.mv_cover.specs.Literal.{Lit}
use Rattle.mv_cover.specs.declared.line.Line.{Line}
use Rattle.mv_cover.specs.declared.cover.Cover.{Cover}
use Rattle.mv_cover.specs.Covers.{allowed}
use Rattle.mv_cover.specs.Covering.{IsPoint}
use Rattle.mv_cover.specs.Sharp.{Suits, sharp_of}

-- each line's cube suits the counts
abbrev pub LinesSuit : List ℕ → List Line → Type 0
LinesSuit counts lines = All (λ l. Suits counts l.cube) lines

-- the sharps of the cubes by one, in order
unfoldable pub sharps_of : List ℕ → List Lit → List (List Lit) → List (List Lit)
sharps_of counts d cubes = flat_map (λ c. sharp_of counts c d) cubes

-- from the cube without literals on, each line in order leaves of each cube its sharp by the line's
unfoldable pub complement_of : List ℕ → List Line → List (List Lit)
complement_of counts lines = fold (λ cubes l. sharps_of counts l.cube cubes) ([] ∷ []) lines

-- after some of the lines, from the first on, the list has more cubes than the limit
pub record IsWide (counts : List ℕ) (lines : List Line) : Type 0 where
  pub passed : ℕ
  pub many : MAX_COMPLEMENT_CUBES < length (complement_of counts (take passed lines))

-- after no line the list has more cubes than the limit
pub record StaysWithin (counts : List ℕ) (lines : List Line) : Type 0 where
  pub each : (k : ℕ) → length (complement_of counts (take k lines)) ≤ MAX_COMPLEMENT_CUBES

-- a line for each of the cubes, in order, with one output
abbrev pub lines_for : ℕ → List (List Lit) → List Line
lines_for out cubes = map (λ c. record { cube = c; out = out }) cubes

-- the lines that stand for the default, if there is one
abbrev pub default_lines : List ℕ → List Line → Option ℕ → List Line
default_lines counts lines None = []
default_lines counts lines (Some out) = lines_for out (complement_of counts lines)

-- the cover without default in which the default's lines stand behind the others
unfoldable pub spelled_of : List ℕ → Cover → Cover
spelled_of counts c =
    record { lines = c.lines ++ default_lines counts c.lines c.default; default = None }

-- two covers that allow the same values at each point
pub record AllowSame (counts : List ℕ) (a b : Cover) : Type 0 where
  pub same : (at : ℕ → ℕ) → IsPoint counts at → (v : ℕ) → allowed a at v ≡ allowed b at v
