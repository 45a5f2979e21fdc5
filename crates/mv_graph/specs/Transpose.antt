-- A graph turned round.
use Rattle.std.specs.Prelude.{◌≡◌, ℕ, List, length}
use Rattle.mv_base.specs.declared.number.NetId.{NetId}
use Rattle.mv_graph.specs.Nets.{has_id, row, IsAscending}

-- the lists turned round: that of m has n, once, where that of n has m
pub record IsTranspose (rows turned : List (List NetId)) : Type 0 where
  pub long : length turned ≡ length rows
  pub each : (m : ℕ) → IsAscending (λ n. has_id (row rows n) m) (row turned m)
