-- The net that stands at the place.
use Rattle.std.proofs.Common.{◌≡◌, ◌∙◌, get_or, ap}
use Rattle.mv_base.specs.declared.number.NetId.{NetId}
use Rattle.mv_shapes.specs.Shape.{net_at}
use Rattle.mv_shapes.proofs.Spread.{net-spread}
use Rattle.mv_shapes.proofs.over.lit_over.Goals as goal

pub returns : goal.returns
returns c =
    let nets = c.args.nets.now in
    let lit = c.args.lit.now in
    let d : NetId = record { 0 = 0 } in
    let net : c.in_ok-made.made.net ≡ net_at nets lit.net.0 =
    c.in_ok-made.ensures.net ∙ (ap (λ k. get_or nets k d) c.net.ensures.number ∙ net-spread nets lit.net.0 d c.requires.low) in
    let set : c.in_ok-made.made.set ≡ lit.set = c.in_ok-made.ensures.set ∙ c.set.ensures in
    λ i. record { net = net i; set = set i }
