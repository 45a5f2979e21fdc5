use Rattle.mv_factors.specs.Leaving.{is_inner}
use Rattle.mv_factors.proofs.Keeping.{on_ok_both}
use Rattle.mv_wide.proofs.Missing.{are_missed_at}
use Rattle.mv_wide.proofs.missed.add_missed.Goals as goal

pub returns-clause-set : goal.returns-clause-set
returns-clause-set c =
    on_ok_both c.meet_all.result _ _ _
    (λ only all. are_missed_at c.args.factors.now _ _ _ c.args.tables c.args.left_out c.args.place c.len-last.result
    (is_inner c.args.beside.now) c.len-last.ensures c.in-Ok.ensures.staged c.in-Ok-eliminate.ensures.ok c.in-Ok-eliminate.ensures.long only all)
    c.meet_all.ensures.only c.meet_all.ensures.all
