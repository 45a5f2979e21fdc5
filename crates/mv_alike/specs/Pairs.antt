-- The first two values of one class. What private functions alone cite.
use Rattle.std.specs.Prelude.{◌≡◌, ℕ, ◌<◌, ◌≤◌, Bool, ◌&&◌, not, nat_eq, nat_lt, Option, Some, None, List, get_or, if◌then◌else◌}
use Rattle.mv_alike.specs.declared.pair.Pair.{Pair}

-- each of the values below i is alone in its class, where the number of a class is its least value
pub record AreAllApart (classes : List ℕ) (i : ℕ) : Type 0 where
  pub alone : (v : ℕ) → v < i → get_or classes v 0 ≡ v

-- of the pairs of one class of values below i the pair is the first: by the lesser value, and then
-- by the greater
pub record IsFirstPair (classes : List ℕ) (i : ℕ) (pair : Pair) : Type 0 where
  pub ordered : pair.low.0 < pair.high.0
  pub high : pair.high.0 < i
  pub class : get_or classes pair.high.0 0 ≡ pair.low.0
  pub first : (v : ℕ) → v < i → get_or classes v 0 < v → pair.low.0 ≤ get_or classes v 0
  pub second : (v : ℕ) → v < i → get_or classes v 0 < v → get_or classes v 0 ≡ pair.low.0
      → pair.high.0 ≤ v

-- these are two values, and no pair with as low a value came before
abbrev pub is_earlier : Option Pair → ℕ → ℕ → Bool
is_earlier None low high = not (nat_eq low high)
is_earlier (Some pair) low high = not (nat_eq low high) && nat_lt low pair.low.0

-- the pair of these, if so
abbrev pub earlier : Option Pair → ℕ → ℕ → Option Pair
earlier first low high =
    if is_earlier first low high then Some
    (record { low = record { 0 = low }; high = record { 0 = high } }) else first
