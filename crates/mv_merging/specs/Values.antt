-- The values of a net behind a merge, and sets of them.
use Rattle.std.specs.Prelude.{ℕ, zero, suc, ◌+◌, Bool, false, ◌&&◌, ◌||◌, nat_eq, nat_lt, Option, Some, None, if◌then◌else◌}
use Rattle.mv_base.specs.Set.{has, empty, one, join}
use Rattle.mv_base.specs.declared.number.Value.{Value}
use Rattle.mv_merging.specs.declared.merging.Merging.{Merging}

-- the number that a value had before: from the one that went on each was greater by one
abbrev pub before : Merging → ℕ → ℕ
before m v = if nat_lt v m.gone.0 then v else v + 1

-- the old value is the one that takes the place of the one that goes
abbrev pub takes_place : Option Value → ℕ → Bool
takes_place None u = false
takes_place (Some into) u = nat_eq into.0 u

-- behind the merge the set has v: it had the value of which v is the number now, or the one whose
-- place that takes
abbrev pub merged_has : Merging → ℕ → ℕ → Bool
merged_has m set v = has set (before m v) || (takes_place m.into (before m v) && has set m.gone.0)

-- the set of the values below k that pass the test
abbrev pub members_below : ℕ → (ℕ → Bool) → ℕ
members_below zero test = empty
members_below (suc k) test = if test k then join (members_below k test) (one k)
    else members_below k test

-- the set behind the merge
unfoldable pub merged_set : Merging → ℕ → ℕ
merged_set m set = members_below m.left (merged_has m set)
