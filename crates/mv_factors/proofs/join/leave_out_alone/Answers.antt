use Rattle.std.proofs.Common.{refl}
use Rattle.mv_factors.proofs.Joining.{goes_none, left_out}
use Rattle.mv_factors.proofs.Keeping.{on_err, on_ok}
use Rattle.mv_factors.proofs.join.leave_out_alone.Goals as goal

pub returns-clause-ok : goal.returns-clause-ok
returns-clause-ok c =
    on_ok c.leave_out.result _ _
    (λ set. left_out _ _ _ _ c.args.from c.args.var c.args.place c.args.place c.requires.first c.requires.place refl c.requires.free
    c.leave_out.ensures.sees c.leave_out.ensures.keeps set)
    c.leave_out.ensures.set

pub returns-clause-err : goal.returns-clause-err
returns-clause-err c =
    on_err c.leave_out.result _ _ (λ same. goes_none _ _ _ _ c.args.from c.leave_out.ensures.sees same) c.leave_out.ensures.same
