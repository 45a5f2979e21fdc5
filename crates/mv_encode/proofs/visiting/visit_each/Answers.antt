-- One net after the other, up to one at which the numbers run out.
use Rattle.std.proofs.Common.{◌≡◌, length, sym, subst, arith}
use Rattle.mv_net.specs.declared.parts.NetParts.{NetParts}
use Rattle.mv_pass.proofs.Visiting.{visited_more, visited_none}
use Rattle.mv_encode.specs.Encodes.{EncodesNet, IsFull}
use Rattle.mv_encode.proofs.Visited.{came_through, ran_out_there, stopped_at}
use Rattle.mv_encode.proofs.visiting.visit_each.Goals as goal

pub loop-number-init : goal.loop-number-init
loop-number-init g c = visited_none c.args.terms.free EncodesNet c.args.net.now _

pub loop-number-preserved : goal.loop-number-preserved
loop-number-preserved g c =
    visited_more c.args.terms.free EncodesNet c.args.net.now c.loop-number.net _ _ c.loop-number.number c.loop-number.invariant c.visit.new.net _ (rw c.in-Ok-None.field-0-is at c.in-Ok-None.ensures)

pub note_full-requires : goal.note_full-requires
note_full-requires g c =
    let out = rw c.in-Ok-Some.field-0-is at c.in-Ok-Some.ensures in
    subst (λ (q : NetParts). IsFull q c.loop-number.number c.in-Ok-Some.name) (sym out.same) out.full

pub returns-in-Ok-Some : goal.returns-in-Ok-Some
returns-in-Ok-Some g c =
    let out = rw c.in-Ok-Some.field-0-is at c.in-Ok-Some.ensures in
    ran_out_there c.args.terms.free c.args.net.now c.loop-number.net _ _ c.loop-number.number c.loop-number.invariant
    (omega (arith, c.loop-number-test.true, c.loop-number.auto.number-end, c.next_number-number-end.ensures)) c.visit.new.net _ _ _ out.same out.still c.note_full.ensures

pub returns-in-Err : goal.returns-in-Err
returns-in-Err g c =
    stopped_at c.args.terms.free c.args.net.now c.loop-number.net _ _ c.loop-number.number c.loop-number.invariant
    (omega (arith, c.loop-number-test.true, c.loop-number.auto.number-end, c.next_number-number-end.ensures)) c.visit.new.net _ _ c.in-Err.ensures

pub returns : goal.returns
returns g c =
    let e : c.loop-number.number ≡ length c.args.net.now.nets = omega (arith, c.loop-number-test.false, c.loop-number.auto.number-end, c.next_number-number-end.ensures) in
    came_through c.args.terms.free c.args.net.now c.loop-number.net _ _ c.loop-number.number c.loop-number.invariant e
