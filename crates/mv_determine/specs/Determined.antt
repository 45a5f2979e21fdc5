-- A table in which each point allows one value at most: each line stands only where none before it
-- does, with its least value.
use Rattle.std.specs.Prelude.{◌≡◌, ◌<◌, ℕ, Option, Some, None, List, [], ◌∷◌, ◌++◌, length, take, slice_index}
use Rattle.std.specs.List.{filter, fold, range_with_len}
use Rattle.mv_base.specs.Set.{has, one}
use Rattle.mv_base.specs.declared.limits.TheConstants.{MAX_COMPLEMENT_CUBES, MAX_TABLE_LINES, MAX_VALUES}
use Rattle.mv_cover.specs.Complement.{lines_for, sharps_of}
use Rattle.mv_cover.specs.Literal.{Lit}
use Rattle.mv_cover.specs.declared.line.Line.{Line}
use Rattle.mv_cover.specs.declared.cover.Cover.{Cover}

-- ---- values and cubes

-- the least value of a set that has one, of those that a net may have
unfoldable pub least_of : ℕ → ℕ
least_of s = slice_index (filter (λ v. has s v) (range_with_len 0 MAX_VALUES)) 0

-- from a cube on, each line in order leaves of each cube its sharp by the line's: what of the cube
-- lies outside all of these lines
unfoldable pub cubes_outside : List ℕ → List Line → List Lit → List (List Lit)
cubes_outside counts lines c = fold (λ cubes l. sharps_of counts l.cube cubes) (c ∷ []) lines

-- ---- the table

-- what becomes of a line behind others: it stands outside their cubes, with its least value
abbrev pub lines_behind : List ℕ → List Line → Line → List Line
lines_behind counts earlier l =
    lines_for (one (least_of l.out)) (cubes_outside counts earlier l.cube)

-- so all lines, each behind those before it
abbrev pub determined_from : List ℕ → List Line → List Line → List Line
determined_from counts earlier [] = []
determined_from counts earlier (l ∷ ls) = lines_behind counts earlier l
    ++ determined_from counts (earlier ++ l ∷ []) ls

-- the least value of a default
abbrev pub least_default : Option ℕ → Option ℕ
least_default None = None
least_default (Some out) = Some (one (least_of out))

-- the table with its lines and its default so
abbrev pub determined_of : List ℕ → Cover → Cover
determined_of counts c =
    record { lines = determined_from counts [] c.lines; default = least_default c.default }

-- ---- too many lines

-- some line becomes more cubes than the limit behind some of the lines before it
pub record HasWideLine (counts : List ℕ) (lines : List Line) : Type 0 where
  pub front : List Line
  pub line : Line
  pub back : List Line
  pub lines_are : lines ≡ front ++ line ∷ back
  pub passed : ℕ
  pub many : MAX_COMPLEMENT_CUBES < length (cubes_outside counts (take passed front) line.cube)

-- so it is, or all together become more lines than a table may have
pub data IsTooLong (counts : List ℕ) (c : Cover) : Type 0 where
  WideLine : HasWideLine counts c.lines → IsTooLong counts c
  ManyLines : MAX_TABLE_LINES < length (determined_from counts [] c.lines) → IsTooLong counts c
