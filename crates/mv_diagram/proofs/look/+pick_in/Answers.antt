use Rattle.std.proofs.Common.{◌∙◌, ℕ, ◌-◌, ◌*◌, ◌<◌, length, sym, ap, subst, arith}
use Rattle.mv_base.specs.declared.limits.TheConstants.{MAX_VALUES}
use Rattle.mv_pool.proofs.Walking.{read_any}
use Rattle.mv_diagram.specs.Sound.{first}
use Rattle.mv_diagram.specs.Diagrams.{point_of}
use Rattle.mv_diagram.proofs.Following.{node_is, first-le, yes-later, no-later}
use Rattle.mv_diagram.proofs.Looking.{end_some, on_true, not_zero, is_zero, some_child, picked_yes, picked_no, step_no}
use Rattle.mv_diagram.proofs.look.+pick_in.Goals as goal

pub returns-in_default-clause-some : goal.returns-in_default-clause-some
returns-in_default-clause-some t c =
    end_some c.args.table.now.counts.items c.args.table.now.pool.places c.requires.sound c.args.d.0 (point_of c.args.point.now) c.eq.result (cc) c.eq.ensures

pub pick_in-requires : goal.pick_in-requires
pick_in-requires t c =
    let counts = c.args.table.now.counts.items in
    let ns = c.args.table.now.pool.places in
    let s = c.requires.sound in
    let e = sym c.in-Some.ensures in
    let later = yes-later counts ns s c.args.d.0 c.in-Some.node e in
    let most = first-le counts ns s c.in-Some.node.yes.0 in
    let falls : length counts * MAX_VALUES - first counts ns c.in-Some.node.yes.0 < length counts * MAX_VALUES - first counts ns c.args.d.0 = omega arith in
    let Below : ℕ → Type 0 = λ x. length counts * MAX_VALUES - first counts ns c.in-Some.node.yes.0 < x in
    (subst Below c.decreases falls, (s, ((node_is counts ns s c.args.d.0 c.in-Some.node e).yes_held, c.requires.point)))

pub bounds-point-node : goal.bounds-point-node
bounds-point-node t c =
    let is = (node_is c.args.table.now.counts.items c.args.table.now.pool.places c.requires.sound c.args.d.0 c.in-Some.node (sym c.in-Some.ensures)).test in
    let within = is.variable in
    let long = c.pick_in.ensures.point.long in
    omega arith

pub returns-then-ne-clause-some : goal.returns-then-ne-clause-some
returns-then-ne-clause-some t c =
    let e = sym c.in-Some.ensures in
    let is = (node_is c.args.table.now.counts.items c.args.table.now.pool.places c.requires.sound c.args.d.0 c.in-Some.node e).test in
    let within = is.variable in
    let long = c.pick_in.ensures.point.long in
    picked_yes c.args.table.now.counts.items c.args.table.now.pool.places c.requires.sound c.args.d.0 c.in-Some.node c.pick_in.new.point e (omega arith)
    (on_true c.pick_in.result _ _ c.pick_in.ensures.some c.pick_in.ensures.none (not_zero c.in-Some.node.yes.0 c.if-ne.ensures))

pub pick_in-requires-2 : goal.pick_in-requires-2
pick_in-requires-2 t c =
    let counts = c.args.table.now.counts.items in
    let ns = c.args.table.now.pool.places in
    let s = c.requires.sound in
    let e = sym c.in-Some.ensures in
    let later = no-later counts ns s c.args.d.0 c.in-Some.node e in
    let most = first-le counts ns s c.in-Some.node.no.0 in
    let falls : length counts * MAX_VALUES - first counts ns c.in-Some.node.no.0 < length counts * MAX_VALUES - first counts ns c.args.d.0 = omega arith in
    let Below : ℕ → Type 0 = λ x. length counts * MAX_VALUES - first counts ns c.in-Some.node.no.0 < x in
    (subst Below c.decreases falls, (s, ((node_is counts ns s c.args.d.0 c.in-Some.node e).no_held, c.requires.point)))

pub bounds-point-node-2 : goal.bounds-point-node-2
bounds-point-node-2 t c =
    let is = (node_is c.args.table.now.counts.items c.args.table.now.pool.places c.requires.sound c.args.d.0 c.in-Some.node (sym c.in-Some.ensures)).test in
    let within = is.variable in
    let long = c.pick_in-2.ensures.point.long in
    omega arith

pub index-requires : goal.index-requires
index-requires t c =
    let is = (node_is c.args.table.now.counts.items c.args.table.now.pool.places c.requires.sound c.args.d.0 c.in-Some.node (sym c.in-Some.ensures)).test in
    omega (arith, is.variable, c.args.table.now.counts.ok)

pub returns-then-point-node-clause-some : goal.returns-then-point-node-clause-some
returns-then-point-node-clause-some t c =
    let counts = c.args.table.now.counts.items in
    let ns = c.args.table.now.pool.places in
    let s = c.requires.sound in
    let e = sym c.in-Some.ensures in
    let is = (node_is counts ns s c.args.d.0 c.in-Some.node e).test in
    let within = is.variable in
    let long = c.pick_in-2.ensures.point.long in
    picked_no counts ns s c.args.d.0 c.in-Some.node c.pick_in-2.new.point e (omega arith)
    (on_true c.pick_in-2.result _ _ c.pick_in-2.ensures.some c.pick_in-2.ensures.none (some_child counts ns s c.args.d.0 c.in-Some.node e (is_zero c.in-Some.node.yes.0 c.if-ne.ensures)))
    c.if-point-node.true (c.index.result.now - 1) (ap (λ x. x - 1) (sym (read_any counts c.in-Some.node.test.var c.index.result.now 0 within c.index.ensures)))

pub returns-else-point-node-clause-some : goal.returns-else-point-node-clause-some
returns-else-point-node-clause-some t c =
    let counts = c.args.table.now.counts.items in
    let ns = c.args.table.now.pool.places in
    let s = c.requires.sound in
    let e = sym c.in-Some.ensures in
    step_no counts ns s c.args.d.0 c.in-Some.node (point_of c.pick_in-2.new.point) e c.if-point-node.false
    ∙ on_true c.pick_in-2.result _ _ c.pick_in-2.ensures.some c.pick_in-2.ensures.none (some_child counts ns s c.args.d.0 c.in-Some.node e (is_zero c.in-Some.node.yes.0 c.if-ne.ensures))
