use Rattle.std.proofs.Common.{◌≡◌, ◌∙◌, ◌<◌, false, length, get_or, sym, ap, subst}
use Rattle.mv_wide.specs.Choosing.{is_left_out}
use Rattle.mv_wide.proofs.Narrowing.{by_literal, false_on, literal_holds, on_false, on_true, true_on}
use Rattle.mv_wide.proofs.choices.narrow_by.Goals as goal

pub returns-clause-some : goal.returns-clause-some
returns-clause-some c =
    let number = c.net-net.ensures.number in
    let kept : is_left_out c.args.left_out c.args.literal.now.net.0 ≡ false =
    ap (is_left_out c.args.left_out) (sym number) ∙ sym c.is_left_out.ensures ∙ c.if-is_left_out.false in
    on_true c.narrow.result _ (λ some. λ counts test are.
    by_literal counts c.narrow.new.choices.items c.args.vars.now test c.args.left_out c.args.literal.now _ c.set-set.result
    (ap (λ k. get_or c.args.vars.now k 0) number) c.set-set.ensures kept
    (true_on c.narrow.result _ c.narrow.ensures.some some counts test are))

pub returns-clause-none : goal.returns-clause-none
returns-clause-none c =
    let number = c.net-net.ensures.number in
    let kept : is_left_out c.args.left_out c.args.literal.now.net.0 ≡ false =
    ap (is_left_out c.args.left_out) (sym number) ∙ sym c.is_left_out.ensures ∙ c.if-is_left_out.false in
    on_false c.narrow.result _ (λ none. λ counts test are in_vars in_counts p range passes holds.
    false_on c.narrow.result _ c.narrow.ensures.none none counts test are
    (subst (λ k. k < length counts) (sym (ap (λ k. get_or c.args.vars.now k 0) number)) in_counts) p range
    (literal_holds c.args.vars.now test c.args.left_out c.args.literal.now _ c.set-set.result p (ap (λ k. get_or c.args.vars.now k 0) number)
    c.set-set.ensures kept passes holds))
