-- Marks of nets by number. For private functions.
use Rattle.std.specs.Prelude.{◌≡◌, ℕ, Bool, true, false, ◌&&◌, not, List, take, slice_index_or}
use Rattle.mv_base.specs.declared.number.NetId.{NetId}
use Rattle.mv_graph.specs.Nets.{has_id}

-- the net is marked
abbrev pub is_marked : List Bool → ℕ → Bool
is_marked marks n = slice_index_or marks n false

-- the net is at a place from `start` on and below `end`
abbrev pub between : List NetId → ℕ → ℕ → ℕ → Bool
between order start end n = has_id (take end order) n && not (has_id (take start order) n)

-- the marked nets are at such places
pub record MarkedWithin (marks : List Bool) (order : List NetId) (start end : ℕ) : Type 0 where
  pub each : (n : ℕ) → is_marked marks n ≡ true → between order start end n ≡ true
