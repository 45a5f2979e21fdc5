use Rattle.std.proofs.Common.{arith}
use Rattle.mv_base.specs.declared.number.NetId.{NetId}
use Rattle.mv_net.specs.Nets.{port_of}
use Rattle.mv_verify.proofs.Looks.{same_lists, same_elements}
use Rattle.mv_verify.proofs.interface.same_ports.Goals as goal

pub returns-then-not-same_port : goal.returns-then-not-same_port
returns-then-not-same_port c = λ same.
    let none : NetId = record { 0 = 0 } in
    c.if-not-same_port.ensures (same_elements (port_of c.args.b.now.nets) (port_of c.args.a.now.nets) none none c.args.of_b.now c.args.of_a.now same c.loop-place.place c.loop-place-test.true)

pub returns : goal.returns
returns c =
    let none : NetId = record { 0 = 0 } in
    same_lists (port_of c.args.b.now.nets) (port_of c.args.a.now.nets) none none c.args.of_b.now c.args.of_a.now (omega arith) (λ k less. c.loop-place.invariant k (omega (arith, c.loop-place-test.false)))
