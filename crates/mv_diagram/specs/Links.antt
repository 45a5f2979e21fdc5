-- Which place a diagram's number names.
use Rattle.std.specs.Prelude.{◌-◌, ◌^◌, ◌&&◌, ℕ, Option, Some, None, nat_lt, nat_le, if◌then◌else◌}
use Rattle.mv_pool.specs.declared.pool.Id.{Id}

-- the place of its first node: none for zero and one
abbrev pub place_of : ℕ → Option Id
place_of d = if nat_le 2 d && nat_lt (d - 2) (2 ^ 32) then Some (record { 0 = d - 2 }) else None
