use Rattle.mv_factors.proofs.Joining.{goes_none, left_out_two, rows_then}
use Rattle.mv_factors.proofs.join.leave_out_two.Goals as goal

pub fill-requires-clause-rows : goal.fill-requires-clause-rows
fill-requires-clause-rows c = rows_then _ _ _ _ c.leave_out.ensures.sees c.requires.rows

pub returns-in-Ok-clause-ok : goal.returns-in-Ok-clause-ok
returns-in-Ok-clause-ok c =
    left_out_two _ _ _ _ _ _ c.args.from c.args.var c.args.place c.args.last c.requires.apart c.requires.first c.requires.later
    c.requires.place c.requires.last c.requires.free c.leave_out.ensures.sees c.fill.ensures.sees c.leave_out.ensures.keeps
    c.fill.ensures.keeps c.in-Ok.ensures.set c.fill.ensures.set

pub returns-in-Err-clause-err : goal.returns-in-Err-clause-err
returns-in-Err-clause-err c = goes_none _ _ _ _ c.args.from c.leave_out.ensures.sees c.in-Err.ensures.same
