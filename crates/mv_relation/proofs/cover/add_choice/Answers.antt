use Rattle.std.proofs.Common.{◌∙◌, sym}
use Rattle.mv_factors.proofs.Keeping.{on_ok}
use Rattle.mv_relation.proofs.Covering.{choice_set}
use Rattle.mv_relation.proofs.cover.add_choice.Goals as goal

pub returns-clause-set : goal.returns-clause-set
returns-clause-set c =
    on_ok c.unite_missed.result _ _
    (λ second. choice_set c.args.factors.now c.add_choices.new.factors c.unite_missed.new.factors _ _ c.len-place.ensures
    c.in-Ok.ensures.keeps.counts c.args.vars.now c.args.own c.args.cover.now c.as_slice-lines.result.now c.as_slice-lines.ensures
    (sym c.has_some.ensures ∙ c.if-not-has_some.false) c.in-Ok.ensures.set second)
    c.unite_missed.ensures.set
