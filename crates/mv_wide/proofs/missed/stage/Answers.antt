use Rattle.std.proofs.Common.{◌∙◌}
use Rattle.mv_factors.proofs.Keeping.{on_ok}
use Rattle.mv_wide.proofs.Missing.{staged}
use Rattle.mv_wide.proofs.missed.stage.Goals as goal

pub returns-clause-staged : goal.returns-clause-staged
returns-clause-staged c =
    on_ok c.complement.result _ _
    (λ turned. staged c.args.factors.now _ _ _ c.args.tables c.args.left_out c.args.place c.len-last.result
    (c.len-last.ensures ∙ c.add_copies.ensures.long) c.requires.place c.add_copies.ensures.set c.add_copies.ensures.keeps
    c.add_copies.ensures.long c.add_copy.ensures.keeps c.add_copy.ensures.long c.add_copy.ensures.set c.complement.ensures.keeps
    c.complement.ensures.long turned)
    c.complement.ensures.set
