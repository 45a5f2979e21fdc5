use Rattle.std.proofs.Common.{◌≡◌, ◌∙◌, ◌++◌, true, false, nat_eq, codes, refl, sym, ap}
use Rattle.std.specs.List.{flat_map}
use Rattle.std.proofs.lemmas.Bool.{eqb-true, eqb-false}
use Rattle.mv_base.specs.Set.{empty, one, full, minus}
use Rattle.mv_base.proofs.Sets.{IsLeast}
use Rattle.mv_base.proofs.Gains.{start, next, stop, last, same}
use Rattle.mv_page.proofs.Adding.{adds}
use Rattle.mv_net.specs.Nets.{spelled_values}
use Rattle.mv_text.specs.Text.{names_in_set, with_comma}
use Rattle.mv_write.specs.Walk.{named}
use Rattle.mv_write.proofs.Spelling.{IsParted, least-small, least-named, others-within, entry-all, entry-one, entry-more}
use Rattle.mv_write.proofs.entries.put_set.Goals as goal

pub returns-then-eq : goal.returns-then-eq
returns-then-eq g c =
    let count = c.args.count in
    let set = c.args.set in
    let whole : nat_eq set (full count) ≡ true = ap (λ t. nat_eq set t) (sym c.full.ensures) ∙ (sym c.eq.ensures ∙ c.if-eq.true) in
    same adds (sym (entry-all count c.args.names.now set c.requires.values whole)) c.put.ensures

pub one-requires : goal.one-requires
one-requires g c =
    let count = c.args.count in
    let names = c.args.names.now in
    let set = c.args.set in
    let v = c.unwrap-first.result.0 in
    let least : IsLeast set v = record { member = rw c.unwrap-first.ensures at c.least.ensures.some; least = rw c.unwrap-first.ensures at c.least.ensures.least } in
    let parted : IsParted count names set v (minus set (one v)) = record { values = c.requires.values; within = c.requires.set.within; least = least; rest = refl } in
    least-small count names set v _ parted

pub put_value-requires : goal.put_value-requires
put_value-requires g c =
    let count = c.args.count in
    let names = c.args.names.now in
    let set = c.args.set in
    let v = c.unwrap-first.result.0 in
    let least : IsLeast set v = record { member = rw c.unwrap-first.ensures at c.least.ensures.some; least = rw c.unwrap-first.ensures at c.least.ensures.least } in
    let others = c.minus-others.result in
    let rest : others ≡ minus set (one v) = c.minus-others.ensures ∙ ap (minus set) c.one.ensures in
    let parted : IsParted count names set v others = record { values = c.requires.values; within = c.requires.set.within; least = least; rest = rest } in
    least-named count names set v others parted

pub returns-then-eq-2 : goal.returns-then-eq-2
returns-then-eq-2 g c =
    let count = c.args.count in
    let names = c.args.names.now in
    let set = c.args.set in
    let v = c.unwrap-first.result.0 in
    let least : IsLeast set v = record { member = rw c.unwrap-first.ensures at c.least.ensures.some; least = rw c.unwrap-first.ensures at c.least.ensures.least } in
    let part : nat_eq set (full count) ≡ false = ap (λ t. nat_eq set t) (sym c.full.ensures) ∙ (sym c.eq.ensures ∙ c.if-eq.false) in
    let others = c.minus-others.result in
    let rest : others ≡ minus set (one v) = c.minus-others.ensures ∙ ap (minus set) c.one.ensures in
    let parted : IsParted count names set v others = record { values = c.requires.values; within = c.requires.set.within; least = least; rest = rest } in
    let none : others ≡ empty = eqb-true others c.empty.result (sym c.eq-2.ensures ∙ c.if-eq-2.true) ∙ c.empty.ensures in
    same adds (sym (entry-one count names set v others parted part none)) c.put_value.ensures

pub returns-in_err-put : goal.returns-in_err-put
returns-in_err-put g c =
    let count = c.args.count in
    let names = c.args.names.now in
    let set = c.args.set in
    let v = c.unwrap-first.result.0 in
    let least : IsLeast set v = record { member = rw c.unwrap-first.ensures at c.least.ensures.some; least = rw c.unwrap-first.ensures at c.least.ensures.least } in
    let part : nat_eq set (full count) ≡ false = ap (λ t. nat_eq set t) (sym c.full.ensures) ∙ (sym c.eq.ensures ∙ c.if-eq.false) in
    let others = c.minus-others.result in
    let rest : others ≡ minus set (one v) = c.minus-others.ensures ∙ ap (minus set) c.one.ensures in
    let parted : IsParted count names set v others = record { values = c.requires.values; within = c.requires.set.within; least = least; rest = rest } in
    let some : others ≡ empty → ⊥ = λ e. eqb-false others c.empty.result (sym c.eq-2.ensures ∙ c.if-eq-2.false) (e ∙ sym c.empty.ensures) in
    let text = entry-more count names set v others parted part some in
    let values = flat_map with_comma (names_in_set (spelled_values count names) others) in
    stop adds (named names v ++ (values ++ codes ")")) _ _ (start adds _ _) text c.in_err-put.ensures c.from_residual.ensures.1

pub put_value-requires-2 : goal.put_value-requires-2
put_value-requires-2 g c =
    let count = c.args.count in
    let names = c.args.names.now in
    let set = c.args.set in
    let v = c.unwrap-first.result.0 in
    let least : IsLeast set v = record { member = rw c.unwrap-first.ensures at c.least.ensures.some; least = rw c.unwrap-first.ensures at c.least.ensures.least } in
    let others = c.minus-others.result in
    let rest : others ≡ minus set (one v) = c.minus-others.ensures ∙ ap (minus set) c.one.ensures in
    let parted : IsParted count names set v others = record { values = c.requires.values; within = c.requires.set.within; least = least; rest = rest } in
    least-named count names set v others parted

pub returns-in_err-put_value : goal.returns-in_err-put_value
returns-in_err-put_value g c =
    let count = c.args.count in
    let names = c.args.names.now in
    let set = c.args.set in
    let v = c.unwrap-first.result.0 in
    let least : IsLeast set v = record { member = rw c.unwrap-first.ensures at c.least.ensures.some; least = rw c.unwrap-first.ensures at c.least.ensures.least } in
    let part : nat_eq set (full count) ≡ false = ap (λ t. nat_eq set t) (sym c.full.ensures) ∙ (sym c.eq.ensures ∙ c.if-eq.false) in
    let others = c.minus-others.result in
    let rest : others ≡ minus set (one v) = c.minus-others.ensures ∙ ap (minus set) c.one.ensures in
    let parted : IsParted count names set v others = record { values = c.requires.values; within = c.requires.set.within; least = least; rest = rest } in
    let some : others ≡ empty → ⊥ = λ e. eqb-false others c.empty.result (sym c.eq-2.ensures ∙ c.if-eq-2.false) (e ∙ sym c.empty.ensures) in
    let text = entry-more count names set v others parted part some in
    let values = flat_map with_comma (names_in_set (spelled_values count names) others) in
    let at = next adds (start adds _ _) text c.in_ok-put.ensures in
    stop adds (values ++ codes ")") _ _ at refl c.in_err-put_value.ensures c.from_residual-in_err-put_value.ensures.1

pub put_values-requires-clause-within : goal.put_values-requires-clause-within
put_values-requires-clause-within g c =
    let count = c.args.count in
    let names = c.args.names.now in
    let set = c.args.set in
    let v = c.unwrap-first.result.0 in
    let least : IsLeast set v = record { member = rw c.unwrap-first.ensures at c.least.ensures.some; least = rw c.unwrap-first.ensures at c.least.ensures.least } in
    let others = c.minus-others.result in
    let rest : others ≡ minus set (one v) = c.minus-others.ensures ∙ ap (minus set) c.one.ensures in
    let parted : IsParted count names set v others = record { values = c.requires.values; within = c.requires.set.within; least = least; rest = rest } in
    others-within count names set v others parted

pub returns-in_err-put_values : goal.returns-in_err-put_values
returns-in_err-put_values g c =
    let count = c.args.count in
    let names = c.args.names.now in
    let set = c.args.set in
    let v = c.unwrap-first.result.0 in
    let least : IsLeast set v = record { member = rw c.unwrap-first.ensures at c.least.ensures.some; least = rw c.unwrap-first.ensures at c.least.ensures.least } in
    let part : nat_eq set (full count) ≡ false = ap (λ t. nat_eq set t) (sym c.full.ensures) ∙ (sym c.eq.ensures ∙ c.if-eq.false) in
    let others = c.minus-others.result in
    let rest : others ≡ minus set (one v) = c.minus-others.ensures ∙ ap (minus set) c.one.ensures in
    let parted : IsParted count names set v others = record { values = c.requires.values; within = c.requires.set.within; least = least; rest = rest } in
    let some : others ≡ empty → ⊥ = λ e. eqb-false others c.empty.result (sym c.eq-2.ensures ∙ c.if-eq-2.false) (e ∙ sym c.empty.ensures) in
    let text = entry-more count names set v others parted part some in
    let values = flat_map with_comma (names_in_set (spelled_values count names) others) in
    let at = next adds (next adds (start adds _ _) text c.in_ok-put.ensures) refl c.in_ok-put_value.ensures in
    stop adds (codes ")") _ _ at refl c.in_err-put_values.ensures c.from_residual-in_err-put_values.ensures.1

pub returns : goal.returns
returns g c =
    let count = c.args.count in
    let names = c.args.names.now in
    let set = c.args.set in
    let v = c.unwrap-first.result.0 in
    let least : IsLeast set v = record { member = rw c.unwrap-first.ensures at c.least.ensures.some; least = rw c.unwrap-first.ensures at c.least.ensures.least } in
    let part : nat_eq set (full count) ≡ false = ap (λ t. nat_eq set t) (sym c.full.ensures) ∙ (sym c.eq.ensures ∙ c.if-eq.false) in
    let others = c.minus-others.result in
    let rest : others ≡ minus set (one v) = c.minus-others.ensures ∙ ap (minus set) c.one.ensures in
    let parted : IsParted count names set v others = record { values = c.requires.values; within = c.requires.set.within; least = least; rest = rest } in
    let some : others ≡ empty → ⊥ = λ e. eqb-false others c.empty.result (sym c.eq-2.ensures ∙ c.if-eq-2.false) (e ∙ sym c.empty.ensures) in
    let text = entry-more count names set v others parted part some in
    let at = next adds (next adds (start adds _ _) text c.in_ok-put.ensures) refl c.in_ok-put_value.ensures in
    last adds (next adds at refl c.in_ok-put_values.ensures) c.put-3.ensures
