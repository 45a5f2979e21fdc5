use Rattle.std.proofs.Common.{◌∙◌, not, nat_eq, sym, ap, arith}
use Rattle.std.proofs.lemmas.Bool.{not-true}
use Rattle.mv_base.specs.Set.{empty}
use Rattle.mv_wide.proofs.Narrowing.{narrow_none, narrow_some, not_false, on_false, on_true}
use Rattle.mv_wide.proofs.choices.narrow.Goals as goal

pub returns-clause-some : goal.returns-clause-some
returns-clause-some c =
    let told = c.ne.ensures ∙ ap (λ k. not (nat_eq c.meet-left.result k)) c.empty.ensures in
    on_true c.ne.result _ (λ some. λ counts test are.
    narrow_some counts c.args.choices.now.items test c.args.var c.args.set c.index.result.now c.meet-left.result (omega (arith, c.if-place-len.false, c.len.ensures)) c.index.ensures
    c.meet-left.ensures are (not-true (nat_eq c.meet-left.result empty) (sym told ∙ some)))

pub returns-clause-none : goal.returns-clause-none
returns-clause-none c =
    let told = c.ne.ensures ∙ ap (λ k. not (nat_eq c.meet-left.result k)) c.empty.ensures in
    on_false c.ne.result _ (λ none. λ counts test are inside p range is.
    narrow_none counts c.args.choices.now.items test c.args.var c.args.set c.index.result.now c.meet-left.result (omega (arith, c.if-place-len.false, c.len.ensures)) c.index.ensures
    c.meet-left.ensures are (not_false (nat_eq c.meet-left.result empty) (sym told ∙ none)) inside p range is)
