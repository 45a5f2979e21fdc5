-- The nets to which a step leads from one net come behind those found.
use Rattle.std.proofs.Common.{◌+◌, List, get_or, subst}
use Rattle.std.proofs.lemmas.Option.{slice_get-get_or}
use Rattle.std.proofs.lemmas.Result.{on_ok_weaker}
use Rattle.mv_base.specs.declared.number.NetId.{NetId}
use Rattle.mv_graph.specs.Nets.{IsAscending}
use Rattle.mv_net.specs.Searching.{leads, HasAdded, HasSpread}
use Rattle.mv_net.proofs.Reaching.{step_spreads}
use Rattle.mv_net.proofs.network.Network.step.Goals as goal

pub returns : goal.returns
returns c =
    let net = c.args.self.now in
    let old = c.args.found.now.keys in
    let new = c.add_nets.new.found.keys in
    let none : NetId = record { 0 = 0 } in
    let P : List NetId → Type 0 = λ keys. IsAscending (leads net.nets c.args.way (get_or keys c.args.place none).0) c.next.result.now in
    let is = subst P c.as_slice.ensures.keys c.next.ensures in
    on_ok_weaker {P = HasAdded old c.next.result.now new} {Q = HasSpread net.nets c.args.way c.args.place (c.args.place + 1) old new} c.add_nets.result
    (step_spreads net c.args.way c.args.place (get_or old c.args.place none) old c.next.result.now new c.well_formed-2.ensures c.requires.held (slice_get-get_or old c.args.place none c.requires.inside) is)
    c.add_nets.ensures
