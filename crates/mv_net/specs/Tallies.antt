-- What is counted over the nets of a network.
use Rattle.std.specs.Prelude.{◌≡◌, ℕ, ◌≤◌, ◌^◌, List, Option, map}
use Rattle.mv_net.specs.declared.parts.FlatNet.{FlatNet}
use Rattle.mv_net.specs.declared.tallies.Tallies.{Tallies}
use Rattle.mv_net.specs.Nets.{slot, values_in, table_in, table_literals, literals_in}

-- the numbers of values by number, and the literals of all tables, none of which has more than
-- memory holds
pub record AreTallies (nets : List (Option FlatNet)) (t : Tallies) : Type 0 where
  pub counts : t.counts ≡ map values_in nets
  pub literals : t.literals ≡ literals_in nets
  pub few : (n : ℕ) → table_literals (table_in (slot nets n)) ≤ 2 ^ 96
