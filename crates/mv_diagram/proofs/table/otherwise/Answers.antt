use Rattle.std.proofs.Common.{◌≡◌, ◌∙◌, None, sym, ap, arith}
use Rattle.mv_diagram.specs.Sets.{with_value, greatest, holds, node_at}
use Rattle.mv_diagram.proofs.Following.{first-le, first-node, node_is, no-later, holds_end}
use Rattle.mv_diagram.proofs.Points.{rest_next, rest_later, holds_later}
use Rattle.mv_diagram.proofs.table.otherwise.Goals as goal

pub loop-next-smaller : goal.loop-next-smaller
loop-next-smaller c =
    let counts = c.args.table.now.counts.items in
    let ns = c.args.table.now.pool.places in
    let more = no-later counts ns c.requires.sound c.loop-next.rest.0 c.in-Some.next (sym c.in-Some.ensures) in
    let most = first-le counts ns c.requires.sound c.in-Some.next.no.0 in
    omega arith

pub loop-next-preserved : goal.loop-next-preserved
loop-next-preserved c =
    let counts = c.args.table.now.counts.items in
    let ns = c.args.table.now.pool.places in
    let is = node_is counts ns c.requires.sound c.loop-next.rest.0 c.in-Some.next (sym c.in-Some.ensures) in
    let there = first-node counts ns c.loop-next.rest.0 c.in-Some.next (sym c.in-Some.ensures) in
    let more = no-later counts ns c.requires.sound c.loop-next.rest.0 c.in-Some.next (sym c.in-Some.ensures) in
    let before = c.loop-next.invariant.later in
    record {
      held = is.no_held;
      later = omega arith;
      set = λ p.
          ap (λ v. holds counts ns c.in-Some.next.no.0 (with_value p v (greatest counts v))) (sym c.if-next-var.true)
          ∙ rest_next counts ns c.requires.sound c.loop-next.rest.0 c.in-Some.next p (sym c.in-Some.ensures)
          ∙ ap (λ v. holds counts ns c.loop-next.rest.0 (with_value p v (greatest counts v))) c.if-next-var.true
          ∙ c.loop-next.invariant.set p;
    }

pub returns-in-loop-next-clause-set : goal.returns-in-loop-next-clause-set
returns-in-loop-next-clause-set c p =
    let counts = c.args.table.now.counts.items in
    let ns = c.args.table.now.pool.places in
    let none : node_at ns c.loop-next.rest.0 ≡ None = cc in
    holds_end counts ns c.loop-next.rest.0 p none
    ∙ sym (holds_end counts ns c.loop-next.rest.0 (with_value p c.args.var (greatest counts c.args.var)) none)
    ∙ c.loop-next.invariant.set p

pub returns-else-next-var-clause-later : goal.returns-else-next-var-clause-later
returns-else-next-var-clause-later c =
    rest_later c.args.table.now.counts.items c.args.table.now.pool.places c.requires.sound c.loop-next.rest.0 c.args.var c.in-Some.next (sym c.in-Some.ensures) c.if-next-var.false c.loop-next.invariant.later

pub returns-else-next-var-clause-set : goal.returns-else-next-var-clause-set
returns-else-next-var-clause-set c p =
    let counts = c.args.table.now.counts.items in
    let ns = c.args.table.now.pool.places in
    let later = rest_later counts ns c.requires.sound c.loop-next.rest.0 c.args.var c.in-Some.next (sym c.in-Some.ensures) c.if-next-var.false c.loop-next.invariant.later in
    sym (holds_later counts ns c.requires.sound c.loop-next.rest.0 p c.args.var (greatest counts c.args.var) later) ∙ c.loop-next.invariant.set p
