-- What rules keep of the tables and the values of a network.
use Rattle.std.specs.Prelude.{◌≡◌, ℕ, ◌≤◌, Option, Some, List}
use Rattle.mv_cover.specs.declared.cover.Cover.{Cover}
use Rattle.mv_net.specs.declared.parts.FlatNet.{FlatNet}
use Rattle.mv_net.specs.Nets.{slot, values_in, table_in}
use Rattle.mv_net.specs.Total.{IsTotal}

-- each table allows some value wherever each net has one of its values
pub record AreTotal (nets : List (Option FlatNet)) : Type 0 where
  pub each : (n : ℕ) (c : Cover) → table_in (slot nets n) ≡ Some c → IsTotal nets c

-- no net has more than two values
pub record AreBinary (nets : List (Option FlatNet)) : Type 0 where
  pub each : (n : ℕ) → values_in (slot nets n) ≤ 2
