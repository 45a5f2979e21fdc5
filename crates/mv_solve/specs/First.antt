-- The first number of a range that passes a test, and the least from a start. For private
-- functions.
use Rattle.std.specs.Prelude.{◌≡◌, ℕ, ◌<◌, ◌≤◌, Bool, true, false}
use Rattle.mv_solve.specs.declared.asked.Asked.{Asked}
use Rattle.mv_solve.specs.Asked.{takes}

-- v is the first number from `start` on and below `end` that passes, or `end` where none does
pub record IsFirst (test : ℕ → Bool) (start end v : ℕ) : Type 0 where
  pub within : v ≤ end
  pub from : v < end → start ≤ v
  pub passes : v < end → test v ≡ true
  pub none : (u : ℕ) → start ≤ u → u < v → test u ≡ false

-- v is the least number from `start` on that passes
pub record IsLeast (test : ℕ → Bool) (start v : ℕ) : Type 0 where
  pub from : start ≤ v
  pub passes : test v ≡ true
  pub none : (u : ℕ) → start ≤ u → u < v → test u ≡ false

-- no number from `start` on passes
pub record NoneFrom (test : ℕ → Bool) (start : ℕ) : Type 0 where
  pub none : (u : ℕ) → start ≤ u → test u ≡ false

-- the range from `low` below `high` has what will do of that from `start` below `end`
pub record IsNarrowed (asked : Asked) (start end low high : ℕ) : Type 0 where
  pub from : low < high → start ≤ low
  pub to : high ≤ end
  pub only : (v : ℕ) → low ≤ v → v < high → takes asked v ≡ true
  pub all : (v : ℕ) → start ≤ v → v < end → takes asked v ≡ true
      → (low ≤ v) × (v < high)
