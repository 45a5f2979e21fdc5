-- The literals of each value's lines, and the greatest of some numbers. What private functions
-- alone cite.
use Rattle.std.specs.Prelude.{◌≡◌, ℕ, ◌<◌, ◌≤◌, List, length, slice_index}
use Rattle.mv_cover.specs.declared.line.Line.{Line}
use Rattle.mv_default.specs.Taken.{literals_of_value}

-- for each value below this number the literals of the lines that give it alone
pub record AreSums (ls : List Line) (values : ℕ) (sums : List ℕ) : Type 0 where
  pub long : length sums ≡ values
  pub each : (v : ℕ) → v < values → slice_index sums v ≡ literals_of_value v ls

-- the first place of the greatest number
pub record IsGreatest (sums : List ℕ) (place : ℕ) : Type 0 where
  pub there : place < length sums
  pub most : (u : ℕ) → u < length sums → slice_index sums u ≤ slice_index sums place
  pub first : (u : ℕ) → u < place → slice_index sums u < slice_index sums place
