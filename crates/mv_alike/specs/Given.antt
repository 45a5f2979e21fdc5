-- Which of so many values a cover gives. What private functions alone cite.
use Rattle.std.specs.Prelude.{◌≡◌, ℕ, ◌<◌, true, false}
use Rattle.mv_cover.specs.declared.cover.Cover.{Cover}
use Rattle.mv_merging.specs.Verdicts.{cover_has}

-- each of so many values stands in an output or in the default
pub record IsEachGiven (values : ℕ) (c : Cover) : Type 0 where
  pub each : (v : ℕ) → v < values → cover_has v c ≡ true

-- v is the least of so many that doesn't
pub record IsLeastAbsent (values : ℕ) (c : Cover) (v : ℕ) : Type 0 where
  pub low : v < values
  pub absent : cover_has v c ≡ false
  pub least : (u : ℕ) → u < v → cover_has u c ≡ true
