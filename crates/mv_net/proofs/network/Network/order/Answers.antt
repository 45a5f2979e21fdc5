-- The held nets ascend, so each is there once, and the graph puts them in order.
use Rattle.std.proofs.Common.{List, ◌≡◌, true, sym, subst}
use Rattle.std.proofs.lemmas.Result.{IfOk-weaker}
use Rattle.mv_base.specs.declared.number.NetId.{NetId}
use Rattle.mv_net.specs.declared.parts.NetParts.{NetParts}
use Rattle.mv_graph.specs.Nets.{all_differ}
use Rattle.mv_dag.specs.Ordered.{IsOrderOf}
use Rattle.mv_net.specs.Formed.{WellFormed}
use Rattle.mv_net.specs.Index.{AreFanins}
use Rattle.mv_net.specs.Order.{IsOrder}
use Rattle.mv_net.proofs.HeldOrder.{ascending_differ, held_order}
use Rattle.mv_net.proofs.network.Network.order.Goals as goal

pub order_among-requires : goal.order_among-requires
order_among-requires c =
    let P : List NetId → Type 0 = λ ns. all_differ ns ≡ true in
    record { once = subst P (sym c.as_slice.ensures) (ascending_differ c.in_ok-nets.nets c.in_ok-nets.ensures.ascending) }

pub returns : goal.returns
returns c =
    let now = c.args.self.now in
    let graph = c.self.inside.kept.graph in
    let P : NetParts → Type 0 = λ p. AreFanins p.nets graph in
    IfOk-weaker c.order_among.result _ (λ order. IsOrder now.nets order.items)
    (λ order e.
    let Q : List NetId → Type 0 = λ ns. IsOrderOf graph ns order.items in
    held_order now graph c.in_ok-nets.nets order.items (subst WellFormed c.self.view_is c.self.invariant.formed) (subst P c.self.view_is c.self.invariant.known.graph) c.in_ok-nets.ensures (subst Q c.as_slice.ensures e))
    c.order_among.ensures
