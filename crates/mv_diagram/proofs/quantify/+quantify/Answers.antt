use Rattle.std.proofs.Common.{ℕ, ◌+◌, ◌==◌, ◌∙◌, ◌-◌, ◌*◌, ◌<◌, ◌&&◌, ◌||◌, min, inl, inr, length, if◌then◌else◌, refl, sym, ap, subst, arith}
use Rattle.std.proofs.lemmas.Bool.{eqb-true}
use Rattle.mv_base.specs.declared.limits.TheConstants.{MAX_VALUES}
use Rattle.mv_pool.specs.Walks.{mark}
use Rattle.mv_diagram.specs.Sound.{order, first}
use Rattle.mv_diagram.proofs.Following.{order-lt}
use Rattle.mv_diagram.proofs.Tables.{AddsNodes-same, AddsNodes-more, table_held, table_first, table_parted, table_test}
use Rattle.mv_diagram.proofs.Quantifying.{quantified_all, quantified_decided, quantified_empty, quantified_end, table_quantifies, quantifies_more}
use Rattle.mv_diagram.proofs.Combining.{or_before, added_yes, added_no, added_all}
use Rattle.mv_diagram.proofs.quantify.+quantify.Goals as goal

pub returns-then-answer_of-clause-ok : goal.returns-then-answer_of-clause-ok
returns-then-answer_of-clause-ok t c =
    quantified_empty c.args.table.now.counts.items c.args.table.now.pool.places c.requires.sound (mark c.args.chosen.now) c.args.answer c.args.a.0 c.args.b.0 0 c.requires.left c.requires.right refl
    (ap (λ x. x || (c.args.b.0 == 0)) (sym c.eq.ensures) ∙ ap (λ x. c.eq.result || x) (sym c.eq-2.ensures) ∙ sym c.answer_of.ensures ∙ c.if-answer_of.true)

pub returns-in-Some-clause-ok : goal.returns-in-Some-clause-ok
returns-in-Some-clause-ok t c = c.requires.quantifies.each (record { operation = c.joining_of.result; left = c.args.a; right = c.args.b }) c.in-Some.known (rw c.of-key.ensures at c.in-Some.ensures)

pub returns-in_default-part-clause-ok : goal.returns-in_default-part-clause-ok
returns-in_default-part-clause-ok t c =
    quantified_end c.args.table.now.counts.items c.args.table.now.pool.places c.requires.sound (mark c.args.chosen.now) c.args.answer c.args.a.0 c.args.b.0 c.end.result.0 c.requires.left c.requires.right
    c.in_default-part.ensures.left c.in_default-part.ensures.right
    (c.end.ensures ∙ ap (λ x. if x then 1 else 0) (c.answer_of-in_default-part.ensures ∙ ap (λ x. x && c.eq-in_default-part-2.result) c.eq-in_default-part.ensures ∙ ap (λ x. (c.args.a.0 == 1) && x) c.eq-in_default-part-2.ensures))

-- where the test says yes

pub returns-in-Err-clause-added : goal.returns-in-Err-clause-added
returns-in-Err-clause-added t c =
    let one = c.quantify.new.table in
    let adds = c.quantify.ensures.adds in
    record { each = added_yes (mark c.args.chosen.now) c.args.answer c.args.table.now one c.requires.sound adds c.args.a.0 c.args.b.0 c.in-Some-part.at c.in-Some-part.ensures.some _ one adds (AddsNodes-same one adds.sound) c.quantify.ensures.added }

pub bounds-chosen-at : goal.bounds-chosen-at
bounds-chosen-at t c = omega (arith, c.in-Some-part.ensures.some.test.test.variable, c.requires.chosen)

pub returns-then-eq-clause-ok : goal.returns-then-eq-clause-ok
returns-then-eq-clause-ok t c =
    let one = c.quantify.new.table in
    let adds = c.quantify.ensures.adds in
    quantified_decided one.counts.items one.pool.places adds.sound (mark c.args.chosen.now) c.args.answer c.args.a.0 c.args.b.0 c.in-Some-part.at.test c.in-Some-part.at.yes.0.0 c.in-Some-part.at.no.0.0 c.in-Some-part.at.yes.1.0 c.in-Some-part.at.no.1.0
    (table_parted c.args.table.now one c.requires.sound adds _ _ _ _ _ _ _ c.in-Some-part.ensures.some) _ refl c.in-Ok.yes.0 c.if-joined.true c.in-Ok.ensures.ok (eqb-true _ _ (sym c.if-eq.ensures) ∙ c.end-then-joined.ensures)

pub returns-then-eq-clause-added : goal.returns-then-eq-clause-added
returns-then-eq-clause-added t c =
    let one = c.quantify.new.table in
    let adds = c.quantify.ensures.adds in
    record { each = added_yes (mark c.args.chosen.now) c.args.answer c.args.table.now one c.requires.sound adds c.args.a.0 c.args.b.0 c.in-Some-part.at c.in-Some-part.ensures.some _ one adds (AddsNodes-same one adds.sound) c.quantify.ensures.added }

-- where it says no

pub quantify-requires-2 : goal.quantify-requires-2
quantify-requires-2 t c =
    let old = c.args.table.now in
    let new = c.quantify.new.table in
    let adds = c.quantify.ensures.adds in
    let s = c.requires.sound in
    let parted = c.in-Some-part.ensures.some in
    let a_no = c.in-Some-part.at.no.0.0 in
    let b_no = c.in-Some-part.at.no.1.0 in
    let a_first = table_first old new s adds a_no parted.left.no_held in
    let b_first = table_first old new s adds b_no parted.right.no_held in
    let levels = ap (λ v. length v.items) adds.counts in
    let a_later = parted.left.no_later in
    let b_later = parted.right.no_later in
    let before : order c.in-Some-part.at.test.var c.in-Some-part.at.test.value < length old.counts.items * MAX_VALUES = order-lt old.counts.items old.pool.places s c.in-Some-part.at.test parted.test.test in
    let falls : length new.counts.items * MAX_VALUES - min (first new.counts.items new.pool.places a_no) (first new.counts.items new.pool.places b_no) < length old.counts.items * MAX_VALUES - min (first old.counts.items old.pool.places c.args.a.0) (first old.counts.items old.pool.places c.args.b.0) =
    elim parted.test.one [ inl level ↦ omega arith | inr level ↦ omega arith ] in
    let Below : ℕ → Type 0 = λ x. length new.counts.items * MAX_VALUES - min (first new.counts.items new.pool.places a_no) (first new.counts.items new.pool.places b_no) < x in
    (subst Below c.decreases falls, (adds.sound, (c.quantify.ensures.remembers, (c.quantify.ensures.quantifies, (c.requires.chosen ∙ sym levels, (table_held old new s adds a_no parted.left.no_held, table_held old new s adds b_no parted.right.no_held))))))

pub returns-in-Err-quantify-clause-adds : goal.returns-in-Err-quantify-clause-adds
returns-in-Err-quantify-clause-adds t c = AddsNodes-more c.args.table.now c.quantify.new.table c.quantify-2.new.table c.quantify.ensures.adds c.quantify-2.ensures.adds

pub returns-in-Err-quantify-clause-added : goal.returns-in-Err-quantify-clause-added
returns-in-Err-quantify-clause-added t c =
    let old = c.args.table.now in
    let one = c.quantify.new.table in
    let two = c.quantify-2.new.table in
    let both = AddsNodes-more old one two c.quantify.ensures.adds c.quantify-2.ensures.adds in
    let parted = c.in-Some-part.ensures.some in
    record {
      each = λ x held. or_before
          (added_no (mark c.args.chosen.now) c.args.answer old two c.requires.sound both c.args.a.0 c.args.b.0 c.in-Some-part.at parted _ two both (AddsNodes-same two both.sound) c.quantify-2.ensures.added x held)
          (added_yes (mark c.args.chosen.now) c.args.answer old two c.requires.sound both c.args.a.0 c.args.b.0 c.in-Some-part.at parted _ one c.quantify.ensures.adds c.quantify-2.ensures.adds c.quantify.ensures.added x);
    }

-- both

pub join-requires-clause-test : goal.join-requires-clause-test
join-requires-clause-test t c =
    let old = c.args.table.now in
    let both = AddsNodes-more old c.quantify.new.table c.quantify-2.new.table c.quantify.ensures.adds c.quantify-2.ensures.adds in
    table_test old c.quantify-2.new.table c.requires.sound both c.in-Some-part.at.test c.in-Some-part.ensures.some.test.test

pub join-requires-clause-yes_held : goal.join-requires-clause-yes_held
join-requires-clause-yes_held t c = table_held c.quantify.new.table c.quantify-2.new.table c.quantify.ensures.adds.sound c.quantify-2.ensures.adds c.in-Ok.yes.0 c.in-Ok.ensures.ok.held

pub join-requires-clause-yes_later : goal.join-requires-clause-yes_later
join-requires-clause-yes_later t c =
    let old = c.args.table.now in
    let one = c.quantify.new.table in
    let s = c.requires.sound in
    let parted = c.in-Some-part.ensures.some in
    let a_first = table_first old one s c.quantify.ensures.adds c.in-Some-part.at.yes.0.0 parted.left.yes_held in
    let b_first = table_first old one s c.quantify.ensures.adds c.in-Some-part.at.yes.1.0 parted.right.yes_held in
    let there = table_first one c.quantify-2.new.table c.quantify.ensures.adds.sound c.quantify-2.ensures.adds c.in-Ok.yes.0 c.in-Ok.ensures.ok.held in
    let here = c.in-Ok.ensures.ok.later (order (c.in-Some-part.at.test.var + 1) 0) (omega (arith, parted.left.yes_later)) (omega (arith, parted.right.yes_later)) in
    omega arith

pub join-requires-clause-no_later : goal.join-requires-clause-no_later
join-requires-clause-no_later t c =
    let old = c.args.table.now in
    let two = c.quantify-2.new.table in
    let s = c.requires.sound in
    let parted = c.in-Some-part.ensures.some in
    let both = AddsNodes-more old c.quantify.new.table two c.quantify.ensures.adds c.quantify-2.ensures.adds in
    let a_first = table_first old two s both c.in-Some-part.at.no.0.0 parted.left.no_held in
    let b_first = table_first old two s both c.in-Some-part.at.no.1.0 parted.right.no_held in
    let here = c.in-Ok-quantify.ensures.ok.later (order c.in-Some-part.at.test.var c.in-Some-part.at.test.value + 1) (omega (arith, parted.left.no_later)) (omega (arith, parted.right.no_later)) in
    omega arith

pub returns-in-Ok-join-clause-adds : goal.returns-in-Ok-join-clause-adds
returns-in-Ok-join-clause-adds t c =
    AddsNodes-more c.args.table.now c.quantify-2.new.table c.join.new.table (AddsNodes-more c.args.table.now c.quantify.new.table c.quantify-2.new.table c.quantify.ensures.adds c.quantify-2.ensures.adds) c.join.ensures.adds

pub returns-in-Err-join-clause-adds : goal.returns-in-Err-join-clause-adds
returns-in-Err-join-clause-adds t c =
    AddsNodes-more c.args.table.now c.quantify-2.new.table c.join.new.table (AddsNodes-more c.args.table.now c.quantify.new.table c.quantify-2.new.table c.quantify.ensures.adds c.quantify-2.ensures.adds) c.join.ensures.adds

pub returns-in-Err-join-clause-quantifies : goal.returns-in-Err-join-clause-quantifies
returns-in-Err-join-clause-quantifies t c =
    table_quantifies c.quantify-2.new.table c.join.new.table c.quantify-2.ensures.adds.sound c.join.ensures.adds (mark c.args.chosen.now) c.args.answer c.quantify-2.new.done.entries c.quantify-2.ensures.quantifies

pub returns-in-Ok-join-clause-ok : goal.returns-in-Ok-join-clause-ok
returns-in-Ok-join-clause-ok t c =
    quantified_all (mark c.args.chosen.now) c.args.answer c.args.table.now c.quantify.new.table c.quantify-2.new.table c.join.new.table c.args.a.0 c.args.b.0 c.in-Some-part.at _ c.in-Ok.yes.0 c.in-Ok-quantify.no.0
    (record { sound = c.requires.sound; first = c.quantify.ensures.adds; second = c.quantify-2.ensures.adds; third = c.join.ensures.adds; parted = c.in-Some-part.ensures.some; chosen = refl; yes = c.in-Ok.ensures.ok; no = c.in-Ok-quantify.ensures.ok })
    c.in-Ok-join.r.0 c.in-Ok-join.ensures.ok

pub returns-in-Ok-join-clause-quantifies : goal.returns-in-Ok-join-clause-quantifies
returns-in-Ok-join-clause-quantifies t c =
    let two = c.quantify-2.new.table in
    let new = c.join.new.table in
    let is = returns-in-Ok-join-clause-ok t c in
    quantifies_more new.counts.items new.pool.places (mark c.args.chosen.now) c.args.answer c.quantify-2.new.done.entries c.keep.new.memo.entries (record { operation = c.joining_of.result; left = c.args.a; right = c.args.b }) c.in-Ok-join.r
    (table_quantifies two new c.quantify-2.ensures.adds.sound c.join.ensures.adds (mark c.args.chosen.now) c.args.answer c.quantify-2.new.done.entries c.quantify-2.ensures.quantifies) (rw c.of-key.ensures at c.keep.ensures) is

-- what is added

pub returns-in-Ok-join-clause-added : goal.returns-in-Ok-join-clause-added
returns-in-Ok-join-clause-added t c =
    added_all (mark c.args.chosen.now) c.args.answer c.args.table.now c.quantify.new.table c.quantify-2.new.table c.join.new.table c.args.a.0 c.args.b.0 c.in-Some-part.at _ c.in-Ok.yes.0 c.in-Ok-quantify.no.0
    (record { sound = c.requires.sound; first = c.quantify.ensures.adds; second = c.quantify-2.ensures.adds; third = c.join.ensures.adds; parted = c.in-Some-part.ensures.some; chosen = refl; yes = c.in-Ok.ensures.ok; no = c.in-Ok-quantify.ensures.ok })
    c.quantify.ensures.added c.quantify-2.ensures.added c.join.ensures.added

pub returns-in-Err-join-clause-added : goal.returns-in-Err-join-clause-added
returns-in-Err-join-clause-added t c =
    added_all (mark c.args.chosen.now) c.args.answer c.args.table.now c.quantify.new.table c.quantify-2.new.table c.join.new.table c.args.a.0 c.args.b.0 c.in-Some-part.at _ c.in-Ok.yes.0 c.in-Ok-quantify.no.0
    (record { sound = c.requires.sound; first = c.quantify.ensures.adds; second = c.quantify-2.ensures.adds; third = c.join.ensures.adds; parted = c.in-Some-part.ensures.some; chosen = refl; yes = c.in-Ok.ensures.ok; no = c.in-Ok-quantify.ensures.ok })
    c.quantify.ensures.added c.quantify-2.ensures.added c.join.ensures.added
