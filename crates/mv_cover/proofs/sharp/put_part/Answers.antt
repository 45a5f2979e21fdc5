-- The part outside is pushed where the literal has not all values, and the part inside is left.
use Rattle.std.proofs.Common.{◌≡◌, ◌∙◌, ap, sym, refl, true, false, nat_eq}
use Rattle.std.proofs.lemmas.Result.{on_ok_weaker}
use Rattle.mv_base.specs.Set.{empty, meet, minus}
use Rattle.mv_cover.specs.Literal.{Lit}
use Rattle.mv_cover.specs.Sharp.{values_left, with_literal}
use Rattle.mv_cover.proofs.Sharps.{outside_none, outside_one, inside_first, inside_again, IsCube-outside}
use Rattle.mv_cover.proofs.sharp.put_part.Goals as goal

pub returns-then-is_empty-clause-outside : goal.returns-then-is_empty-clause-outside
returns-then-is_empty-clause-outside c =
    let values = c.values_left-values.result in
    let v : values ≡ values_left c.args.counts.now c.args.lits.now.items c.args.l.now.net.0 = c.values_left-values.ensures ∙ λ i. values_left c.args.counts.now (c.as_slice.ensures.value i) (c.net.ensures.number i) in
    let none : nat_eq (minus values c.args.l.now.set) empty ≡ true = ap (λ (m : Lit). nat_eq m.set empty) (sym c.in_ok-outside.ensures) ∙ (sym c.is_empty.ensures ∙ c.if-is_empty.true) in
    on_ok_weaker c.put.result
    (λ _. outside_none c.args.counts.now c.args.lits.now.items c.args.l.now c.args.list.now.items values (minus values c.args.l.now.set) empty v refl refl none) c.put.ensures

pub returns-then-is_empty-clause-inside : goal.returns-then-is_empty-clause-inside
returns-then-is_empty-clause-inside c =
    let values = c.values_left-values.result in
    let v : values ≡ values_left c.args.counts.now c.args.lits.now.items c.args.l.now.net.0 = c.values_left-values.ensures ∙ λ i. values_left c.args.counts.now (c.as_slice.ensures.value i) (c.net.ensures.number i) in
    on_ok_weaker c.put.result
    (λ put. inside_first c.args.counts.now c.args.lits.now.items c.put.new.lits.items c.args.l.now values (meet values c.args.l.now.set) v refl
    (put ∙ ap (λ (m : Lit). with_literal m c.args.lits.now.items) c.in_ok-inside.ensures)) c.put.ensures

pub new-requires : goal.new-requires
new-requires c =
    let values = c.values_left-values.result in
    let some : nat_eq (minus values c.args.l.now.set) empty ≡ false = ap (λ (m : Lit). nat_eq m.set empty) (sym c.in_ok-outside.ensures) ∙ (sym c.is_empty.ensures ∙ c.if-is_empty.false) in
    IsCube-outside c.args.lits.now.items c.as_slice-2.result.now c.args.l.now (minus values c.args.l.now.set) empty c.requires.cube refl some
    (c.as_slice-2.ensures.value ∙ (c.in_ok-put.ensures ∙ ap (λ (m : Lit). with_literal m c.args.lits.now.items) c.in_ok-outside.ensures))

pub returns-clause-outside : goal.returns-clause-outside
returns-clause-outside c =
    let values = c.values_left-values.result in
    let v : values ≡ values_left c.args.counts.now c.args.lits.now.items c.args.l.now.net.0 = c.values_left-values.ensures ∙ λ i. values_left c.args.counts.now (c.as_slice.ensures.value i) (c.net.ensures.number i) in
    let some : nat_eq (minus values c.args.l.now.set) empty ≡ false = ap (λ (m : Lit). nat_eq m.set empty) (sym c.in_ok-outside.ensures) ∙ (sym c.is_empty.ensures ∙ c.if-is_empty.false) in
    on_ok_weaker c.put-3.result
    (λ _. outside_one c.args.counts.now c.args.lits.now.items c.in_ok-new.field-0 c.args.l.now c.args.list.now.items c.push.new.self.items values (minus values c.args.l.now.set) empty v refl refl some
    (c.in_ok-new.ensures ∙ (c.as_slice-2.ensures.value ∙ (c.in_ok-put.ensures ∙ ap (λ (m : Lit). with_literal m c.args.lits.now.items) c.in_ok-outside.ensures))) c.in_ok-push.ensures.items) c.put-3.ensures

pub returns-clause-inside : goal.returns-clause-inside
returns-clause-inside c =
    let values = c.values_left-values.result in
    let v : values ≡ values_left c.args.counts.now c.args.lits.now.items c.args.l.now.net.0 = c.values_left-values.ensures ∙ λ i. values_left c.args.counts.now (c.as_slice.ensures.value i) (c.net.ensures.number i) in
    on_ok_weaker c.put-3.result
    (λ put. inside_again c.args.counts.now c.args.lits.now.items c.put-2.new.lits.items c.put-3.new.lits.items c.args.l.now (minus values c.args.l.now.set) values (meet values c.args.l.now.set) v refl
    (c.in_ok-put.ensures ∙ ap (λ (m : Lit). with_literal m c.args.lits.now.items) c.in_ok-outside.ensures)
    (put ∙ ap (λ (m : Lit). with_literal m c.put-2.new.lits.items) c.in_ok-inside.ensures)) c.put-3.ensures
