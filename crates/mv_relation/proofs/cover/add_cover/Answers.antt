use Rattle.std.proofs.Common.{◌∙◌}
use Rattle.mv_factors.proofs.Keeping.{on_ok}
use Rattle.mv_relation.proofs.Covering.{allowed_bare, cover_set}
use Rattle.mv_relation.proofs.cover.add_cover.Goals as goal

pub returns-in-None-clause-set : goal.returns-in-None-clause-set
returns-in-None-clause-set c = λ p range.
    c.in-Ok.ensures.set p range
    ∙ allowed_bare c.args.vars.now c.args.own p c.args.cover.now c.as_slice-lines.result.now c.as_slice-lines.ensures c.in-None.is

pub returns-clause-set : goal.returns-clause-set
returns-clause-set c =
    on_ok c.unite_default.result _ _
    (λ second. cover_set c.args.factors.now c.add_lines.new.factors c.unite_default.new.factors _ _ c.len-place.ensures
    c.in-Ok.ensures.keeps.counts c.args.vars.now c.args.own c.args.cover.now c.as_slice-lines.result.now c.as_slice-lines.ensures _
    c.in-Some.is c.in-Ok.ensures.set second)
    c.unite_default.ensures.set
