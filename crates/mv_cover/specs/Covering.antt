-- Whether lines match every point, over the counts of the nets' values by their numbers.
use Rattle.std.specs.Prelude.{◌≡◌, ◌<◌, ℕ, true, false, cond, nat_eq, List, slice_index}
use Rattle.mv_cover.specs.declared.line.Line.{Line}
use Rattle.mv_cover.specs.Covers.{some_matches, lines_read}

-- an assignment that gives each net that has values one of them
pub record IsPoint (counts : List ℕ) (at : ℕ → ℕ) : Type 0 where
  pub below : (n : ℕ) → 0 < slice_index counts n → at n < slice_index counts n

-- an assignment with the value on the net n, and as it was on every other
unfoldable pub changed : ℕ → ℕ → (ℕ → ℕ) → ℕ → ℕ
changed n value at m = cond (nat_eq m n) value (at m)

-- each net that has a literal has values
pub record AreWithin (counts : List ℕ) (lines : List Line) : Type 0 where
  pub valued : (n : ℕ) → lines_read lines n ≡ true → 0 < slice_index counts n

-- every point matches some line
pub record CoversAll (counts : List ℕ) (lines : List Line) : Type 0 where
  pub each : (at : ℕ → ℕ) → IsPoint counts at → some_matches at lines ≡ true

-- some point matches no line
pub record MissesSome (counts : List ℕ) (lines : List Line) : Type 0 where
  pub at : ℕ → ℕ
  pub point : IsPoint counts at
  pub missed : some_matches at lines ≡ false
