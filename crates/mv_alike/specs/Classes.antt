-- Classes of values, as a list with a number for each value. What private functions alone cite.
use Rattle.std.specs.Prelude.{◌≡◌, ℕ, ◌+◌, ◌*◌, ◌<◌, ◌≤◌, Bool, ◌&&◌, not, nat_eq, Option, List, MatchBool, get_or, length, if◌then◌else◌}
use Rattle.mv_net.specs.declared.parts.FlatNet.{FlatNet}
use Rattle.mv_net.specs.Nets.{slot, values_in}
use Rattle.mv_merging.specs.Verdicts.{AreAlike}

-- the two values are of one class
abbrev pub same : List ℕ → ℕ → ℕ → Bool
same classes u v = nat_eq (get_or classes u 0) (get_or classes v 0)

-- the number of each class is its least value
pub record AreNumbered (classes : List ℕ) : Type 0 where
  pub least : (v : ℕ) → v < length classes → get_or classes v 0 ≤ v
  pub own : (v : ℕ) → v < length classes
      → get_or classes (get_or classes v 0) 0 ≡ get_or classes v 0

-- two values are of one class now where they were before and the test doesn't tell them apart
pub record AreRefined (tells : ℕ → ℕ → Bool) (old new : List ℕ) : Type 0 where
  pub long : length new ≡ length old
  pub numbered : AreNumbered new
  pub told : (u v : ℕ) → u < length old → v < length old
      → same new u v ≡ (same old u v && not (tells u v))

-- two values of the net are of one class where no table tells them apart
pub record AreClasses (nets : List (Option FlatNet)) (n : ℕ) (classes : List ℕ) : Type 0 where
  pub long : length classes ≡ values_in (slot nets n)
  pub numbered : AreNumbered classes
  pub alike : (u v : ℕ) → u < length classes → v < length classes
      → MatchBool (same classes u v) (AreAlike nets n u v) (AreAlike nets n u v → ⊥)

-- the place of one half of a class: each has two, one behind the other
abbrev pub half_of : ℕ → Bool → ℕ
half_of class inside = 2 * class + (if inside then 1 else 0)
