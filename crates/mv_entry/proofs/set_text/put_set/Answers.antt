use Rattle.std.proofs.Common.{◌≡◌, ◌∙◌, ◌++◌, codes, decimal, refl, sym, ap}
use Rattle.std.specs.List.{flat_map}
use Rattle.std.proofs.lemmas.Bool.{eqb-true, eqb-false}
use Rattle.mv_base.specs.Set.{empty, one, minus}
use Rattle.mv_base.proofs.Gains.{start, next, stop, last, same}
use Rattle.mv_page.proofs.Adding.{adds}
use Rattle.mv_entry.specs.Entries.{members, with_comma}
use Rattle.mv_entry.proofs.Members.{parted, word-none, word-one, word-more}
use Rattle.mv_entry.proofs.set_text.put_set.Goals as goal

pub returns-in_default : goal.returns-in_default
returns-in_default g c =
    same adds (sym (word-none c.args.set (c.in_default.ensures.none.0 refl))) c.put.ensures

pub one-requires : goal.one-requires
one-requires g c = c.members_are_small.ensures.below c.in-Some.first.0 c.in-Some.ensures.some

pub returns-then-eq : goal.returns-then-eq
returns-then-eq g c =
    let set = c.args.set in
    let v = c.in-Some.first.0 in
    let rest : c.minus-others.result ≡ minus set (one v) = c.minus-others.ensures ∙ ap (minus set) c.one.ensures in
    let p = parted set v c.minus-others.result c.members_are_small.ensures c.in-Some.ensures.some c.in-Some.ensures.least rest in
    let none : c.minus-others.result ≡ empty = eqb-true c.minus-others.result c.empty.result (sym c.eq.ensures ∙ c.if-eq.true) ∙ c.empty.ensures in
    same adds (sym (word-one set v _ p none)) c.put_value.ensures

pub returns-in_err-put : goal.returns-in_err-put
returns-in_err-put g c =
    let set = c.args.set in
    let v = c.in-Some.first.0 in
    let rest : c.minus-others.result ≡ minus set (one v) = c.minus-others.ensures ∙ ap (minus set) c.one.ensures in
    let p = parted set v c.minus-others.result c.members_are_small.ensures c.in-Some.ensures.some c.in-Some.ensures.least rest in
    let some : c.minus-others.result ≡ empty → ⊥ = λ e. eqb-false c.minus-others.result c.empty.result (sym c.eq.ensures ∙ c.if-eq.false) (e ∙ sym c.empty.ensures) in
    let text = word-more set v _ p some in
    let values = flat_map with_comma (members c.minus-others.result) in
    stop adds (decimal v ++ (values ++ codes ")")) _ _ (start adds _ _) text c.in_err-put.ensures c.from_residual.ensures.1

pub returns-in_err-put_value : goal.returns-in_err-put_value
returns-in_err-put_value g c =
    let set = c.args.set in
    let v = c.in-Some.first.0 in
    let rest : c.minus-others.result ≡ minus set (one v) = c.minus-others.ensures ∙ ap (minus set) c.one.ensures in
    let p = parted set v c.minus-others.result c.members_are_small.ensures c.in-Some.ensures.some c.in-Some.ensures.least rest in
    let some : c.minus-others.result ≡ empty → ⊥ = λ e. eqb-false c.minus-others.result c.empty.result (sym c.eq.ensures ∙ c.if-eq.false) (e ∙ sym c.empty.ensures) in
    let text = word-more set v _ p some in
    let values = flat_map with_comma (members c.minus-others.result) in
    let at = next adds (start adds _ _) text c.in_ok-put.ensures in
    stop adds (values ++ codes ")") _ _ at refl c.in_err-put_value.ensures c.from_residual-in_err-put_value.ensures.1

pub returns-in_err-put_values : goal.returns-in_err-put_values
returns-in_err-put_values g c =
    let set = c.args.set in
    let v = c.in-Some.first.0 in
    let rest : c.minus-others.result ≡ minus set (one v) = c.minus-others.ensures ∙ ap (minus set) c.one.ensures in
    let p = parted set v c.minus-others.result c.members_are_small.ensures c.in-Some.ensures.some c.in-Some.ensures.least rest in
    let some : c.minus-others.result ≡ empty → ⊥ = λ e. eqb-false c.minus-others.result c.empty.result (sym c.eq.ensures ∙ c.if-eq.false) (e ∙ sym c.empty.ensures) in
    let text = word-more set v _ p some in
    let values = flat_map with_comma (members c.minus-others.result) in
    let at = next adds (next adds (start adds _ _) text c.in_ok-put.ensures) refl c.in_ok-put_value.ensures in
    stop adds (codes ")") _ _ at refl c.in_err-put_values.ensures c.from_residual-in_err-put_values.ensures.1

pub returns : goal.returns
returns g c =
    let set = c.args.set in
    let v = c.in-Some.first.0 in
    let rest : c.minus-others.result ≡ minus set (one v) = c.minus-others.ensures ∙ ap (minus set) c.one.ensures in
    let p = parted set v c.minus-others.result c.members_are_small.ensures c.in-Some.ensures.some c.in-Some.ensures.least rest in
    let some : c.minus-others.result ≡ empty → ⊥ = λ e. eqb-false c.minus-others.result c.empty.result (sym c.eq.ensures ∙ c.if-eq.false) (e ∙ sym c.empty.ensures) in
    let text = word-more set v _ p some in
    let values = flat_map with_comma (members c.minus-others.result) in
    let at = next adds (next adds (start adds _ _) text c.in_ok-put.ensures) refl c.in_ok-put_value.ensures in
    last adds (next adds at refl c.in_ok-put_values.ensures) c.put-3.ensures
