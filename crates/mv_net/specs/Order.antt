-- An order of the nets in which each stands behind its fanins.
use Rattle.std.specs.Prelude.{◌≡◌, ℕ, true, Option, List, take, slice_get, Some}
use Rattle.mv_base.specs.declared.number.NetId.{NetId}
use Rattle.mv_net.specs.declared.parts.FlatNet.{FlatNet}
use Rattle.mv_net.specs.Nets.{slot, net_reads}
use Rattle.mv_graph.specs.Nets.{all_differ, has_id}
use Rattle.mv_net.specs.Index.{is_held}

-- each held net stands in the list once, and the fanins of a net stand before it
pub record IsOrder (nets : List (Option FlatNet)) (order : List NetId) : Type 0 where
  pub members : (n : ℕ) → has_id order n ≡ is_held nets n
  pub once : all_differ order ≡ true
  pub behind : (place : ℕ) (n : NetId) (m : ℕ) → slice_get order place ≡ Some n
      → net_reads (slot nets n.0) m ≡ true → has_id (take place order) m ≡ true
