-- What callers see of the room for an elimination.
use Rattle.std.specs.Prelude.{◌≤◌, ℕ, length}
use Rattle.mv_factors.specs.Families.{Family}

-- for how many places and variables there is room
pub record Room : Type 0 where
  pub places : ℕ
  pub vars : ℕ

-- there is room for the sets of a list
pub record Fits (r : Room) (f : Family) : Type 0 where
  pub places : length f.list ≤ r.places
  pub vars : length f.contents.counts ≤ r.vars
