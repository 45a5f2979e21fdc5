-- What is always true of a pool's fields.
use Rattle.std.specs.Prelude.{◌≡◌, ◌<◌, ◌≤◌, ◌+◌, ◌^◌, ℕ, Bool, List, Option, length}
use Rattle.indexmap.specs.IndexMap.{IndexMap, get, index_map_len, spare}
use Rattle.mv_pool.specs.Places.{place_of, least_free, held_in, AreDistinct}

-- the map numbers exactly the items at the places, no place below `taken` is free, and there is
-- room for `cap` items
pub record IsKept {T S : Type 0} (eq : T → T → Bool) (numbers : IndexMap T ℕ S)
    (places : List (Option T)) (room taken cap : ℕ) : Type 0 where
  pub found : (item : T) → get eq numbers item ≡ place_of eq item places
  pub count : index_map_len numbers ≡ held_in places
  pub distinct : AreDistinct eq places
  pub least : taken ≤ least_free places
  pub within : length places ≤ cap
  pub spare : cap ≤ index_map_len numbers + spare numbers
  pub fits : cap ≤ room
  pub small : cap < 2 ^ 32

-- and there is room for a walk over `cap` places
pub record HasRoom (kept : Type 0) (cap marks queue : ℕ) : Type 0 where
  pub fields : kept
  pub marked : cap ≤ marks
  pub queued : cap ≤ queue
