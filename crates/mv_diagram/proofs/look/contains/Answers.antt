use Rattle.std.proofs.Common.{◌∙◌, sym, arith}
use Rattle.mv_diagram.specs.Diagrams.{point_of}
use Rattle.mv_diagram.proofs.Following.{node_is, holds_end, first-le, yes-later, no-later}
use Rattle.mv_diagram.proofs.Looking.{step_yes, step_no}
use Rattle.mv_diagram.proofs.look.contains.Goals as goal

pub bounds-point-next : goal.bounds-point-next
bounds-point-next c =
    let is = (node_is c.args.table.now.counts.items c.args.table.now.pool.places c.requires.sound c.loop-next.at.0 c.in-Some.next (sym c.in-Some.ensures)).test in
    let within = is.variable in
    let long = c.requires.point.long in
    omega arith

pub loop-next-preserved-then-value-next : goal.loop-next-preserved-then-value-next
loop-next-preserved-then-value-next c =
    let counts = c.args.table.now.counts.items in
    let ns = c.args.table.now.pool.places in
    let is = node_is counts ns c.requires.sound c.loop-next.at.0 c.in-Some.next (sym c.in-Some.ensures) in
    record {
      held = is.yes_held;
      set = c.loop-next.invariant.set ∙ step_yes counts ns c.requires.sound c.loop-next.at.0 c.in-Some.next (point_of c.args.point.now) (sym c.in-Some.ensures) c.if-value-next.true;
    }

pub loop-next-preserved : goal.loop-next-preserved
loop-next-preserved c =
    let counts = c.args.table.now.counts.items in
    let ns = c.args.table.now.pool.places in
    let is = node_is counts ns c.requires.sound c.loop-next.at.0 c.in-Some.next (sym c.in-Some.ensures) in
    record {
      held = is.no_held;
      set = c.loop-next.invariant.set ∙ step_no counts ns c.requires.sound c.loop-next.at.0 c.in-Some.next (point_of c.args.point.now) (sym c.in-Some.ensures) c.if-value-next.false;
    }

pub loop-next-smaller : goal.loop-next-smaller
loop-next-smaller c =
    let counts = c.args.table.now.counts.items in
    let ns = c.args.table.now.pool.places in
    let y = yes-later counts ns c.requires.sound c.loop-next.at.0 c.in-Some.next (sym c.in-Some.ensures) in
    let n = no-later counts ns c.requires.sound c.loop-next.at.0 c.in-Some.next (sym c.in-Some.ensures) in
    let ym = first-le counts ns c.requires.sound c.in-Some.next.yes.0 in
    let nm = first-le counts ns c.requires.sound c.in-Some.next.no.0 in
    omega arith

pub returns : goal.returns
returns c =
    c.eq.ensures ∙ sym (c.loop-next.invariant.set ∙ holds_end c.args.table.now.counts.items c.args.table.now.pool.places c.loop-next.at.0 (point_of c.args.point.now) cc)
