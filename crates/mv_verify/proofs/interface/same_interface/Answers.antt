use Rattle.std.proofs.Common.{◌≡◌, ◌∙◌, map, sym, ap, subst}
use Rattle.mv_base.specs.Meaning.{Interface}
use Rattle.mv_net.specs.Nets.{port_of, latch_port_of, interface_of}
use Rattle.mv_net.specs.Searching.{AreHeld}
use Rattle.mv_verify.proofs.Looks.{answers}
use Rattle.mv_verify.proofs.Ports.{inputs_held, outputs_held}
use Rattle.mv_verify.proofs.interface.same_interface.Goals as goal

pub same_ports-requires-clause-held_in_b : goal.same_ports-requires-clause-held_in_b
same_ports-requires-clause-held_in_b c = subst (AreHeld c.args.b.now.nets) (sym c.inputs.ensures) (inputs_held c.args.b.now c.well_formed-2.ensures)

pub same_ports-requires-clause-held_in_a : goal.same_ports-requires-clause-held_in_a
same_ports-requires-clause-held_in_a c = subst (AreHeld c.args.a.now.nets) (sym c.inputs-2.ensures) (inputs_held c.args.a.now c.well_formed-3.ensures)

pub same_ports-requires-2-clause-held_in_b : goal.same_ports-requires-2-clause-held_in_b
same_ports-requires-2-clause-held_in_b c = subst (AreHeld c.args.b.now.nets) (sym c.outputs.ensures) (outputs_held c.args.b.now c.well_formed-2.ensures)

pub same_ports-requires-2-clause-held_in_a : goal.same_ports-requires-2-clause-held_in_a
same_ports-requires-2-clause-held_in_a c = subst (AreHeld c.args.a.now.nets) (sym c.outputs-2.ensures) (outputs_held c.args.a.now c.well_formed-3.ensures)

pub returns-then-not-same_ports : goal.returns-then-not-same_ports
unfolding interface_of
returns-then-not-same_ports c = λ same.
    let f = map (port_of c.args.b.now.nets) in
    let g = map (port_of c.args.a.now.nets) in
    let inputs : f c.args.b.now.inputs ≡ g c.args.a.now.inputs = ap (λ (i : Interface). i.inputs) same in
    c.if-not-same_ports.ensures (ap f c.inputs.ensures ∙ (inputs ∙ sym (ap g c.inputs-2.ensures)))

pub returns-then-not-same_ports-2 : goal.returns-then-not-same_ports-2
unfolding interface_of
returns-then-not-same_ports-2 c = λ same.
    let f = map (port_of c.args.b.now.nets) in
    let g = map (port_of c.args.a.now.nets) in
    let outputs : f c.args.b.now.outputs ≡ g c.args.a.now.outputs = ap (λ (i : Interface). i.outputs) same in
    c.if-not-same_ports-2.ensures (ap f c.outputs.ensures ∙ (outputs ∙ sym (ap g c.outputs-2.ensures)))

pub returns : goal.returns
unfolding interface_of
returns c =
    let f = map (port_of c.args.b.now.nets) in
    let g = map (port_of c.args.a.now.nets) in
    let inputs : f c.args.b.now.inputs ≡ g c.args.a.now.inputs = sym (ap f c.inputs.ensures) ∙ (c.if-not-same_ports.ensures ∙ ap g c.inputs-2.ensures) in
    let outputs : f c.args.b.now.outputs ≡ g c.args.a.now.outputs = sym (ap f c.outputs.ensures) ∙ (c.if-not-same_ports-2.ensures ∙ ap g c.outputs-2.ensures) in
    answers c.same_latches.result (map (latch_port_of c.args.b.now.nets) c.args.b.now.latches ≡ map (latch_port_of c.args.a.now.nets) c.args.a.now.latches) (interface_of c.args.b.now ≡ interface_of c.args.a.now)
    (λ latches. λ i. record { inputs = inputs i; outputs = outputs i; latches = latches i })
    (λ same. ap (λ (i : Interface). i.latches) same)
    c.same_latches.ensures
