use Rattle.std.proofs.Common.{ℕ, ◌-◌, ◌*◌, ◌<◌, ◌∙◌, length, refl, sym, ap, subst, arith}
use Rattle.mv_base.specs.Set.{minus}
use Rattle.mv_base.specs.declared.limits.TheConstants.{MAX_VALUES}
use Rattle.mv_pool.proofs.Walking.{read_any}
use Rattle.mv_diagram.specs.Sound.{first}
use Rattle.mv_diagram.proofs.Cubing.{on_true_is, on_false_is}
use Rattle.mv_diagram.proofs.Following.{first-le, no-later}
use Rattle.mv_diagram.proofs.Meeting.{place_below, meets_end, misses_end, stands_behind, child_behind, child_held, front_later, front_inside, leads_all, leads_past, leads_less, meets_yes, meets_rest, misses_rest, misses_none, none_left, missed_more, missed_marked}
use Rattle.mv_diagram.proofs.meet.+meets_in.Goals as goal

-- without tests, and where the place is marked

pub returns-in_default-clause-some : goal.returns-in_default-clause-some
returns-in_default-clause-some t c = meets_end c.args.table.now.counts.items c.args.sets.now c.requires.choices c.args.table.now.pool.places c.requires.sound c.args.d.0 c.eq.result (cc) c.eq.ensures

pub returns-in_default-clause-none : goal.returns-in_default-clause-none
returns-in_default-clause-none t c = misses_end c.args.table.now.counts.items c.args.sets.now c.requires.choices c.args.table.now.pool.places c.requires.sound c.args.d.0 c.eq.result (cc) c.eq.ensures

pub is_marked-requires : goal.is_marked-requires
is_marked-requires t c = place_below c.args.table.now.pool.places c.args.d (length c.args.marks.now) c.requires.held c.requires.missed.long

pub returns-then-is_marked-clause-none : goal.returns-then-is_marked-clause-none
returns-then-is_marked-clause-none t c =
    missed_marked c.args.table.now.counts.items c.args.sets.now c.requires.choices c.args.table.now.pool.places c.requires.sound c.args.d.0 c.args.marks.now c.requires.missed (on_true_is c.is_marked.result _ c.if-is_marked.true c.is_marked.ensures)

-- one value after another

pub bounds-sets-front : goal.bounds-sets-front
bounds-sets-front t c =
    let inside = front_inside c.args.table.now.counts.items c.args.sets.now c.requires.choices c.args.table.now.pool.places c.requires.sound c.args.d.0 c.in-Some.front (sym c.in-Some.ensures) in
    omega (arith, c.requires.choices.long)

pub loop-next-init : goal.loop-next-init
loop-next-init t c =
    let counts = c.args.table.now.counts.items in
    let ns = c.args.table.now.pool.places in
    let front = c.in-Some.front in
    let e = sym c.in-Some.ensures in
    let inside = front_inside counts c.args.sets.now c.requires.choices ns c.requires.sound c.args.d.0 front e in
    record {
      leads = leads_all counts c.args.sets.now c.requires.choices ns c.requires.sound c.args.d.0 front.test.var c.requires.held (front_later counts c.args.sets.now c.requires.choices ns c.requires.sound c.args.d.0 front e) inside
          c.index-sets-front.result (sym (read_any c.args.sets.now front.test.var c.index-sets-front.result 0 (omega (arith, c.requires.choices.long)) c.index-sets-front.is));
      missed = c.requires.missed;
    }

pub tested-requires-clause-held : goal.tested-requires-clause-held
tested-requires-clause-held t c = c.loop-next.invariant.leads.held

pub tested-requires-clause-variable : goal.tested-requires-clause-variable
tested-requires-clause-variable t c = front_inside c.args.table.now.counts.items c.args.sets.now c.requires.choices c.args.table.now.pool.places c.requires.sound c.args.d.0 c.in-Some.front (sym c.in-Some.ensures)

pub tested-requires-clause-later : goal.tested-requires-clause-later
tested-requires-clause-later t c = c.loop-next.invariant.leads.later

pub meets_in-requires : goal.meets_in-requires
meets_in-requires t c =
    let counts = c.args.table.now.counts.items in
    let ns = c.args.table.now.pool.places in
    let next = c.in-Some-tested.next in
    let tests = c.in-Some-tested.ensures.some in
    let falls = stands_behind counts c.args.sets.now c.requires.choices ns c.requires.sound c.args.d.0 c.in-Some.front (sym c.in-Some.ensures) next.yes.0
    (child_behind counts c.args.sets.now c.requires.choices ns c.requires.sound c.loop-next.rest.0 c.in-Some.front.test.var next tests) in
    let Below : ℕ → Type 0 = λ x. length counts * MAX_VALUES - first counts ns next.yes.0 < x in
    (subst Below c.decreases falls, (c.requires.sound, (child_held counts c.args.sets.now c.requires.choices ns c.requires.sound c.loop-next.rest.0 c.in-Some.front.test.var next tests, (c.requires.choices, c.loop-next.invariant.missed))))

pub returns-then-meets_in-clause-some : goal.returns-then-meets_in-clause-some
returns-then-meets_in-clause-some t c =
    let inside = front_inside c.args.table.now.counts.items c.args.sets.now c.requires.choices c.args.table.now.pool.places c.requires.sound c.args.d.0 c.in-Some.front (sym c.in-Some.ensures) in
    meets_yes c.args.table.now.counts.items c.args.sets.now c.requires.choices c.args.table.now.pool.places c.requires.sound c.args.d.0 c.in-Some.front.test.var c.loop-next.left c.loop-next.rest.0 inside c.loop-next.invariant.leads c.in-Some-tested.next c.in-Some-tested.ensures.some
    (sym c.has.ensures ∙ c.if-has.true) (on_true_is c.meets_in.result _ c.if-meets_in.true c.meets_in.ensures.some)

pub loop-next-preserved-then-has : goal.loop-next-preserved-then-has
loop-next-preserved-then-has t c =
    let inside = front_inside c.args.table.now.counts.items c.args.sets.now c.requires.choices c.args.table.now.pool.places c.requires.sound c.args.d.0 c.in-Some.front (sym c.in-Some.ensures) in
    record {
      leads = leads_less c.args.table.now.counts.items c.args.sets.now c.requires.choices c.args.table.now.pool.places c.requires.sound c.args.d.0 c.in-Some.front.test.var c.loop-next.left c.loop-next.rest.0 inside c.loop-next.invariant.leads c.in-Some-tested.next c.in-Some-tested.ensures.some
          (on_false_is c.meets_in.result _ c.if-meets_in.false c.meets_in.ensures.none) (sym c.has.ensures ∙ c.if-has.true) c.minus-left.result (c.minus-left.ensures ∙ ap (minus c.loop-next.left) c.one.ensures);
      missed = c.meets_in.ensures.missed;
    }

pub loop-next-preserved : goal.loop-next-preserved
loop-next-preserved t c =
    let inside = front_inside c.args.table.now.counts.items c.args.sets.now c.requires.choices c.args.table.now.pool.places c.requires.sound c.args.d.0 c.in-Some.front (sym c.in-Some.ensures) in
    record {
      leads = leads_past c.args.table.now.counts.items c.args.sets.now c.requires.choices c.args.table.now.pool.places c.requires.sound c.args.d.0 c.in-Some.front.test.var c.loop-next.left c.loop-next.rest.0 inside c.loop-next.invariant.leads c.in-Some-tested.next c.in-Some-tested.ensures.some
          (sym c.has.ensures ∙ c.if-has.false);
      missed = c.loop-next.invariant.missed;
    }

pub loop-next-smaller : goal.loop-next-smaller
loop-next-smaller t c =
    let counts = c.args.table.now.counts.items in
    let ns = c.args.table.now.pool.places in
    let more = no-later counts ns c.requires.sound c.loop-next.rest.0 c.in-Some-tested.next c.in-Some-tested.ensures.some.at in
    let most = first-le counts ns c.requires.sound c.in-Some-tested.next.no.0 in
    omega arith

pub loop-next-smaller-then-has : goal.loop-next-smaller-then-has
loop-next-smaller-then-has t c =
    let counts = c.args.table.now.counts.items in
    let ns = c.args.table.now.pool.places in
    let more = no-later counts ns c.requires.sound c.loop-next.rest.0 c.in-Some-tested.next c.in-Some-tested.ensures.some.at in
    let most = first-le counts ns c.requires.sound c.in-Some-tested.next.no.0 in
    omega arith

-- where no value is left

pub mark_at-requires : goal.mark_at-requires
mark_at-requires t c = place_below c.args.table.now.pool.places c.args.d (length c.loop-next.marks) c.requires.held c.loop-next.invariant.missed.long

pub returns-in_default-least-clause-none : goal.returns-in_default-least-clause-none
returns-in_default-least-clause-none t c =
    misses_none c.args.table.now.counts.items c.args.sets.now c.requires.choices c.args.table.now.pool.places c.requires.sound c.args.d.0 c.in-Some.front.test.var c.loop-next.left c.loop-next.rest.0 c.loop-next.invariant.leads
    (none_left c.loop-next.left (c.in_default-least.ensures.none.0 refl))

pub returns-in_default-least-clause-missed : goal.returns-in_default-least-clause-missed
returns-in_default-least-clause-missed t c =
    missed_more c.args.table.now.counts.items c.args.sets.now c.requires.choices c.args.table.now.pool.places c.requires.sound c.args.d.0 c.loop-next.marks c.mark_at.new.marks c.loop-next.invariant.missed (returns-in_default-least-clause-none t c) c.mark_at.ensures

-- where some are

pub meets_in-requires-2 : goal.meets_in-requires-2
meets_in-requires-2 t c =
    let counts = c.args.table.now.counts.items in
    let ns = c.args.table.now.pool.places in
    let falls = stands_behind counts c.args.sets.now c.requires.choices ns c.requires.sound c.args.d.0 c.in-Some.front (sym c.in-Some.ensures) c.loop-next.rest.0 c.in_default-tested.ensures.none in
    let Below : ℕ → Type 0 = λ x. length counts * MAX_VALUES - first counts ns c.loop-next.rest.0 < x in
    (subst Below c.decreases falls, (c.requires.sound, (c.loop-next.invariant.leads.held, (c.requires.choices, c.loop-next.invariant.missed))))

pub returns-then-meets_in-2-clause-some : goal.returns-then-meets_in-2-clause-some
returns-then-meets_in-2-clause-some t c =
    let inside = front_inside c.args.table.now.counts.items c.args.sets.now c.requires.choices c.args.table.now.pool.places c.requires.sound c.args.d.0 c.in-Some.front (sym c.in-Some.ensures) in
    meets_rest c.args.table.now.counts.items c.args.sets.now c.requires.choices c.args.table.now.pool.places c.requires.sound c.args.d.0 c.in-Some.front.test.var c.loop-next.left c.loop-next.rest.0 c.in-Some-least._least.0 inside c.loop-next.invariant.leads c.in_default-tested.ensures.none
    c.in-Some-least.ensures.some (on_true_is c.meets_in-2.result _ c.if-meets_in-2.true c.meets_in-2.ensures.some)

pub mark_at-requires-2 : goal.mark_at-requires-2
mark_at-requires-2 t c = place_below c.args.table.now.pool.places c.args.d (length c.meets_in-2.new.marks) c.requires.held c.meets_in-2.ensures.missed.long

pub returns-clause-none : goal.returns-clause-none
returns-clause-none t c =
    misses_rest c.args.table.now.counts.items c.args.sets.now c.requires.choices c.args.table.now.pool.places c.requires.sound c.args.d.0 c.in-Some.front.test.var c.loop-next.left c.loop-next.rest.0 c.loop-next.invariant.leads
    (on_false_is c.meets_in-2.result _ c.if-meets_in-2.false c.meets_in-2.ensures.none)

pub returns-clause-missed : goal.returns-clause-missed
returns-clause-missed t c =
    missed_more c.args.table.now.counts.items c.args.sets.now c.requires.choices c.args.table.now.pool.places c.requires.sound c.args.d.0 c.meets_in-2.new.marks c.mark_at-2.new.marks c.meets_in-2.ensures.missed (returns-clause-none t c) c.mark_at-2.ensures
