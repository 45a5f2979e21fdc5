-- The nets near one, put reader by reader.
use Rattle.std.proofs.Common.{◌≡◌, ℕ, true, Option, List}
use Rattle.mv_base.specs.declared.number.NetId.{NetId}
use Rattle.mv_graph.specs.Nets.{has_id}
use Rattle.mv_net.specs.declared.parts.FlatNet.{FlatNet}
use Rattle.mv_agenda.specs.Around.{WaitsWithFanins, PutsWithFanins}

-- n and these nets wait, each with those that it reads, and what waited still does
pub record PutsEach (nets : List (Option FlatNet)) (n : ℕ) (list : List NetId) (old new : List ℕ) : Type 0 where
  pub first : PutsWithFanins nets n old new
  pub each : (r : ℕ) → has_id list r ≡ true → WaitsWithFanins nets r new
