use Rattle.std.proofs.Common.{◌≡◌, ◌∙◌, true, None, List, length, map, get_or, sym, ap, subst, arith}
use Rattle.mv_net.specs.declared.parts.FlatLatch.{FlatLatch}
use Rattle.mv_net.specs.Index.{is_held}
use Rattle.mv_net.specs.Nets.{latch_port_of}
use Rattle.mv_verify.proofs.Looks.{same_lists, same_elements}
use Rattle.mv_verify.proofs.Ports.{latch_at_held}
use Rattle.mv_verify.proofs.interface.same_latches.Goals as goal

pub same_latch-requires-clause-held_in_b : goal.same_latch-requires-clause-held_in_b
same_latch-requires-clause-held_in_b c =
    let none : FlatLatch = record { input = record { 0 = 0 }; output = record { 0 = 0 }; reset = None } in
    let P : List FlatLatch → Type 0 = λ ls. is_held c.args.b.now.nets (get_or ls c.loop-place.place none).output.0 ≡ true in
    subst P (sym c.latches-of_b.ensures) (latch_at_held c.args.b.now.nets c.args.b.now.latches c.loop-place.place none c.well_formed-2.ensures.latches (omega (arith, ap length c.latches-of_b.ensures, c.loop-place-test.true)))

pub same_latch-requires-clause-held_in_a : goal.same_latch-requires-clause-held_in_a
same_latch-requires-clause-held_in_a c =
    let none : FlatLatch = record { input = record { 0 = 0 }; output = record { 0 = 0 }; reset = None } in
    let P : List FlatLatch → Type 0 = λ ls. is_held c.args.a.now.nets (get_or ls c.loop-place.place none).output.0 ≡ true in
    subst P (sym c.latches-of_a.ensures) (latch_at_held c.args.a.now.nets c.args.a.now.latches c.loop-place.place none c.well_formed-3.ensures.latches (omega (arith, ap length c.latches-of_a.ensures, c.loop-place-test.true, c.if-of_b-of_a.false)))

pub returns-then-not-same_latch : goal.returns-then-not-same_latch
returns-then-not-same_latch c = λ same.
    let none : FlatLatch = record { input = record { 0 = 0 }; output = record { 0 = 0 }; reset = None } in
    let f = latch_port_of c.args.b.now.nets in
    let g = latch_port_of c.args.a.now.nets in
    let here : map f c.latches-of_b.result.now ≡ map g c.latches-of_a.result.now = ap (map f) c.latches-of_b.ensures ∙ (same ∙ sym (ap (map g) c.latches-of_a.ensures)) in
    c.if-not-same_latch.ensures (same_elements f g none none c.latches-of_b.result.now c.latches-of_a.result.now here c.loop-place.place c.loop-place-test.true)

pub returns : goal.returns
returns c =
    let none : FlatLatch = record { input = record { 0 = 0 }; output = record { 0 = 0 }; reset = None } in
    let f = latch_port_of c.args.b.now.nets in
    let g = latch_port_of c.args.a.now.nets in
    let here : map f c.latches-of_b.result.now ≡ map g c.latches-of_a.result.now = same_lists f g none none c.latches-of_b.result.now c.latches-of_a.result.now (omega arith) (λ k less. c.loop-place.invariant k (omega (arith, c.loop-place-test.false))) in
    sym (ap (map f) c.latches-of_b.ensures) ∙ (here ∙ ap (map g) c.latches-of_a.ensures)
