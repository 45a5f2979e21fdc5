use Rattle.std.proofs.Common.{◌≡◌, ◌∙◌, ◌<◌, true, List, length, sym, ap, subst}
use Rattle.mv_base.specs.declared.number.NetId.{NetId}
use Rattle.mv_graph.specs.Sorting.{net_at}
use Rattle.mv_net.specs.declared.parts.NetParts.{NetParts}
use Rattle.mv_net.specs.Nets.{slot, values_in}
use Rattle.mv_net.specs.Index.{is_held}
use Rattle.mv_verify.specs.Sides.{ports_of, count_at}
use Rattle.mv_verify.proofs.Ports.{port_held}
use Rattle.mv_verify.proofs.side.Side.count.Goals as goal

pub values-requires : goal.values-requires
values-requires c =
    let net = c.self.inside.net.now in
    let P : List NetId → Type 0 = λ l. is_held net.nets (net_at l c.args.place) ≡ true in
    let Q : NetParts → Type 0 = λ n. c.args.place < length (ports_of n) in
    subst P (sym (c.as_slice-ports.ensures.value ∙ c.self.invariant.listed)) (port_held net c.args.place c.well_formed-2.ensures (subst Q (sym c.self.view_is) c.requires))

pub returns : goal.returns
unfolding count_at
returns c =
    let net = c.self.inside.net.now in
    c.values.ensures ∙ (ap (λ (l : List NetId). values_in (slot net.nets (net_at l c.args.place))) (c.as_slice-ports.ensures.value ∙ c.self.invariant.listed) ∙ ap (λ (n : NetParts). count_at n c.args.place) c.self.view_is)
