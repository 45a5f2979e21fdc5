-- A network by the nets that are seen from outside, in an order that is the same for networks that
-- look alike. For private functions.
use Rattle.std.specs.Prelude.{◌≡◌, ℕ, ◌<◌, List, ◌++◌, map}
use Rattle.mv_base.specs.declared.number.NetId.{NetId}
use Rattle.mv_graph.specs.Sorting.{net_at}
use Rattle.mv_net.specs.declared.parts.FlatLatch.{FlatLatch}
use Rattle.mv_net.specs.declared.parts.NetParts.{NetParts}
use Rattle.mv_net.specs.Nets.{slot, values_in}
use Rattle.mv_net.specs.Formed.{latch_outputs, latch_resets}
use Rattle.mv_net.specs.Allowed.{Agrees}
use Rattle.mv_net.specs.Order.{IsOrder}
use Rattle.mv_solve.specs.Search.{Search}

-- the inputs of the latches, in order
abbrev pub latch_inputs : List FlatLatch → List NetId
latch_inputs ls = map (λ (l : FlatLatch). l.input) ls

-- the nets whose values make a point
unfoldable pub point_ports : NetParts → List NetId
point_ports net = net.inputs ++ latch_outputs net.latches

-- and those whose values make a choice
unfoldable pub choice_ports : NetParts → List NetId
choice_ports net = net.outputs ++ (latch_inputs net.latches ++ latch_resets net.latches)

-- all of them
unfoldable pub ports_of : NetParts → List NetId
ports_of net = point_ports net ++ choice_ports net

-- how many values the port at a place has
unfoldable pub count_at : NetParts → ℕ → ℕ
count_at net place = values_in (slot net.nets (net_at (ports_of net) place))

-- the assignment has these values at the first ports
pub record AreAt (ports : List NetId) (end : ℕ) (at values : ℕ → ℕ) : Type 0 where
  pub each : (k : ℕ) → k < end → at (net_at ports k) ≡ values k

-- some assignment that agrees with the network has them
pub record Shows (net : NetParts) (end : ℕ) (values : ℕ → ℕ) : Type 0 where
  pub at : ℕ → ℕ
  pub agrees : Agrees net.nets at
  pub same : AreAt (ports_of net) end at values

-- what is kept of a network: its ports, and what looks for its assignments
pub record IsSide (net : NetParts) (ports : List NetId) (search : Search) : Type 0 where
  pub listed : ports ≡ ports_of net
  pub order : IsOrder net.nets search.order
