use Rattle.std.proofs.Common.{ℕ, subst, ◌∙◌, ◌-◌, ◌*◌, ◌<◌, min, inl, inr, length, if◌then◌else◌, ap, arith}
use Rattle.mv_base.specs.declared.limits.TheConstants.{MAX_VALUES}
use Rattle.mv_diagram.specs.Sound.{order, first}
use Rattle.mv_diagram.specs.Results.{result_of}
use Rattle.mv_diagram.proofs.Following.{order-lt}
use Rattle.mv_diagram.proofs.Applying.{result_at_once, result_end, result_lacks_yes, result_lacks_no}
use Rattle.mv_diagram.proofs.Tables.{AddsNodes-same, AddsNodes-more, table_held, table_first, table_parted, table_result}
use Rattle.mv_diagram.proofs.Adding.{from_yes, from_both}
use Rattle.mv_diagram.proofs.apply.+apply.Goals as goal

pub returns-in-Some-clause-ok : goal.returns-in-Some-clause-ok
returns-in-Some-clause-ok t c =
    result_at_once c.args.table.now.counts.items c.args.table.now.pool.places c.requires.sound c.args.operation c.args.a.0 c.args.b.0 c.requires.left c.requires.right c.in-Some.d.0 c.in-Some.ensures.set c.in-Some.ensures.among

pub returns-in-Some-recall-clause-ok : goal.returns-in-Some-recall-clause-ok
returns-in-Some-recall-clause-ok t c = c.requires.remembers.each (record { operation = c.args.operation; left = c.args.a; right = c.args.b }) c.in-Some-recall.d (rw c.of-key.ensures at c.in-Some-recall.ensures)

pub returns-in_default-part-clause-ok : goal.returns-in_default-part-clause-ok
returns-in_default-part-clause-ok t c =
    result_end c.args.table.now.counts.items c.args.table.now.pool.places c.requires.sound c.args.operation c.args.a.0 c.args.b.0 c.requires.left c.requires.right c.end.result.0
    c.in_default-part.ensures.left c.in_default-part.ensures.right
    (c.end.ensures ∙ ap (λ x. if x then 1 else 0) (c.answer_of.ensures ∙ ap (λ x. result_of c.args.operation x c.eq-in_default-part.result) c.eq.ensures ∙ ap (result_of c.args.operation _) c.eq-in_default-part.ensures))

-- where the test says yes

pub returns-in-Err-clause-lacking : goal.returns-in-Err-clause-lacking
returns-in-Err-clause-lacking t c =
    let new = c.apply.new.table in
    let adds = c.apply.ensures.adds in
    result_lacks_yes new.counts.items new.pool.places adds.sound c.args.operation _ _ _ _ _ _ _ (table_parted c.args.table.now new c.requires.sound adds _ _ _ _ _ _ _ c.in-Some-part.ensures.some) c.in-Err.ensures.lacking

-- where it says no

pub apply-requires-2 : goal.apply-requires-2
apply-requires-2 t c =
    let old = c.args.table.now in
    let new = c.apply.new.table in
    let adds = c.apply.ensures.adds in
    let s = c.requires.sound in
    let parted = c.in-Some-part.ensures.some in
    let a_no = c.in-Some-part.at.no.0.0 in
    let b_no = c.in-Some-part.at.no.1.0 in
    let a_first = table_first old new s adds a_no parted.left.no_held in
    let b_first = table_first old new s adds b_no parted.right.no_held in
    let levels = ap (λ v. length v.items) adds.counts in
    let a_later = parted.left.no_later in
    let b_later = parted.right.no_later in
    let before : order c.in-Some-part.at.test.var c.in-Some-part.at.test.value < length old.counts.items * MAX_VALUES = order-lt old.counts.items old.pool.places s c.in-Some-part.at.test parted.test.test in
    let falls : length new.counts.items * MAX_VALUES - min (first new.counts.items new.pool.places a_no) (first new.counts.items new.pool.places b_no) < length old.counts.items * MAX_VALUES - min (first old.counts.items old.pool.places c.args.a.0) (first old.counts.items old.pool.places c.args.b.0) =
    elim parted.test.one [ inl level ↦ omega arith | inr level ↦ omega arith ] in
    let Below : ℕ → Type 0 = λ x. length new.counts.items * MAX_VALUES - min (first new.counts.items new.pool.places a_no) (first new.counts.items new.pool.places b_no) < x in
    (subst Below c.decreases falls, (adds.sound, (c.apply.ensures.remembers, (table_held old new s adds a_no parted.left.no_held, table_held old new s adds b_no parted.right.no_held))))

pub returns-in-Err-apply-clause-adds : goal.returns-in-Err-apply-clause-adds
returns-in-Err-apply-clause-adds t c = AddsNodes-more c.args.table.now c.apply.new.table c.apply-2.new.table c.apply.ensures.adds c.apply-2.ensures.adds

pub returns-in-Err-apply-clause-lacking : goal.returns-in-Err-apply-clause-lacking
returns-in-Err-apply-clause-lacking t c =
    let new = c.apply-2.new.table in
    let adds = AddsNodes-more c.args.table.now c.apply.new.table new c.apply.ensures.adds c.apply-2.ensures.adds in
    result_lacks_no new.counts.items new.pool.places adds.sound c.args.operation _ _ _ _ _ _ _ (table_parted c.args.table.now new c.requires.sound adds _ _ _ _ _ _ _ c.in-Some-part.ensures.some) c.in-Err-apply.ensures.lacking

-- both

pub whole-requires-clause-sides : goal.whole-requires-clause-sides
whole-requires-clause-sides t c =
    let one = c.apply.new.table in
    let two = c.apply-2.new.table in
    rw c.of-key.ensures
    (record {
      a_yes = c.in-Some-part.at.yes.0.0;
      a_no = c.in-Some-part.at.no.0.0;
      b_yes = c.in-Some-part.at.yes.1.0;
      b_no = c.in-Some-part.at.no.1.0;
      parted = table_parted c.args.table.now two c.requires.sound (AddsNodes-more c.args.table.now one two c.apply.ensures.adds c.apply-2.ensures.adds) _ _ _ _ _ _ _ c.in-Some-part.ensures.some;
      yes = table_result one two c.apply.ensures.adds.sound c.apply-2.ensures.adds c.args.operation _ _ c.in-Ok.d.0 c.in-Ok.ensures.ok;
      no = c.in-Ok-apply.ensures.ok;
    })

pub returns-clause-adds : goal.returns-clause-adds
returns-clause-adds t c =
    AddsNodes-more c.args.table.now c.apply-2.new.table c.whole.new.table (AddsNodes-more c.args.table.now c.apply.new.table c.apply-2.new.table c.apply.ensures.adds c.apply-2.ensures.adds) c.whole.ensures.adds

pub returns-clause-lacking : goal.returns-clause-lacking
returns-clause-lacking t c = rw c.of-key.ensures at c.whole.ensures.lacking

-- what is added

pub returns-in-Err-clause-added : goal.returns-in-Err-clause-added
returns-in-Err-clause-added t c =
    let new = c.apply.new.table in
    let adds = c.apply.ensures.adds in
    record {
      each = λ d held. elim (c.apply.ensures.added.each d held) [
        | inl was ↦ inl was
        | inr r ↦ inr (from_yes c.args.operation c.args.table.now new c.requires.sound adds _ _ _ _ _ _ _ c.in-Some-part.ensures.some new adds (AddsNodes-same new adds.sound) d held r)
      ];
    }

pub returns-in-Err-apply-clause-added : goal.returns-in-Err-apply-clause-added
returns-in-Err-apply-clause-added t c =
    let old = c.args.table.now in
    let one = c.apply.new.table in
    let two = c.apply-2.new.table in
    let both = AddsNodes-more old one two c.apply.ensures.adds c.apply-2.ensures.adds in
    record {
      each = from_both c.args.operation old two c.requires.sound both _ _ _ _ _ _ _ c.in-Some-part.ensures.some one two c.apply.ensures.adds c.apply-2.ensures.adds (AddsNodes-same two both.sound) c.apply.ensures.added c.apply-2.ensures.added;
    }

pub returns-clause-added : goal.returns-clause-added
returns-clause-added t c =
    let old = c.args.table.now in
    let one = c.apply.new.table in
    let two = c.apply-2.new.table in
    let new = c.whole.new.table in
    let both = AddsNodes-more old one two c.apply.ensures.adds c.apply-2.ensures.adds in
    record {
      each = λ d held. elim ((rw c.of-key.ensures at c.whole.ensures.added).each d held) [
        | inr r ↦ inr r
        | inl before ↦ from_both c.args.operation old new c.requires.sound (AddsNodes-more old two new both c.whole.ensures.adds) _ _ _ _ _ _ _ c.in-Some-part.ensures.some one two
            c.apply.ensures.adds c.apply-2.ensures.adds c.whole.ensures.adds c.apply.ensures.added c.apply-2.ensures.added d before
      ];
    }
