-- What is found from the nets on to which a step leads is all to which steps lead.
use Rattle.std.proofs.Common.{◌∙◌, List, subst}
use Rattle.mv_base.specs.declared.number.NetId.{NetId}
use Rattle.mv_graph.specs.Nets.{has_id, IsAscending}
use Rattle.mv_net.specs.Searching.{LedFrom, HasAdded}
use Rattle.mv_net.proofs.Reaching.{first_held}
use Rattle.mv_net.proofs.Paths.{lists_sorted, led_exactly}
use Rattle.mv_net.proofs.network.Network.led_from.Goals as goal

pub grow_all-requires : goal.grow_all-requires
grow_all-requires c = first_held c.args.self.now c.args.way c.args.n.0 c.next.result.now c.new-found.result.keys c.add_nets.new.found.keys c.well_formed-2.ensures c.next.ensures c.new-found.ensures.empty c.in_ok-add_nets.ensures

pub returns : goal.returns
returns c =
    let nets = c.args.self.now.nets in
    let first = c.add_nets.new.found.keys in
    let list = c.grow_all.new.found.keys in
    let P : List NetId → Type 0 = λ keys. HasAdded keys c.next.result.now first in
    let Q : List NetId → Type 0 = λ keys. IsAscending (has_id keys) c.ascending.result in
    lists_sorted (LedFrom nets c.args.way c.args.n.0) list c.ascending.result
    (led_exactly nets c.args.way c.args.n.0 c.next.result.now first list c.next.ensures (subst P c.new-found.ensures.empty c.in_ok-add_nets.ensures) c.in_ok-grow_all.ensures)
    (subst Q (c.in_ok-nets.ensures.items ∙ c.as_slice.ensures.keys) c.ascending.ensures)
