use Rattle.std.proofs.Common.{◌≡◌, ◌∙◌, ◌+◌, ◌≤◌, length, ap, subst, arith}
use Rattle.mv_net.specs.declared.parts.NetParts.{NetParts}
use Rattle.mv_verify.specs.Sides.{point_ports, ports_of}
use Rattle.mv_verify.proofs.Ports.{points_long, ports_long}
use Rattle.mv_verify.proofs.side.Side.points.Goals as goal

pub returns-clause-count : goal.returns-clause-count
returns-clause-count c =
    let net = c.self.inside.net.now in
    let here : length c.inputs.result.now + length c.latches.result.now ≡ length (point_ports net) = omega (arith, points_long net, ap length c.inputs.ensures, ap length c.latches.ensures) in
    here ∙ ap (λ (n : NetParts). length (point_ports n)) c.self.view_is

pub returns-clause-within : goal.returns-clause-within
returns-clause-within c =
    let net = c.self.inside.net.now in
    let here : length c.inputs.result.now + length c.latches.result.now ≤ length (ports_of net) = omega (arith, points_long net, ports_long net, ap length c.inputs.ensures, ap length c.latches.ensures) in
    let P : NetParts → Type 0 = λ n. length c.inputs.result.now + length c.latches.result.now ≤ length (ports_of n) in
    subst P c.self.view_is here
