use Rattle.mv_factors.proofs.Joining.{puts_away, rows_then}
use Rattle.mv_factors.proofs.join.put_away.Goals as goal

pub fill-requires-clause-rows : goal.fill-requires-clause-rows
fill-requires-clause-rows c = rows_then _ _ _ _ c.in-Ok.ensures.ok.goes.sees c.requires.rows

pub returns-in-Ok-clause-ok : goal.returns-in-Ok-clause-ok
returns-in-Ok-clause-ok c =
    puts_away _ _ _ _ _ _ c.args.from c.args.var c.args.given c.requires.first c.requires.given c.requires.function
    c.in-Ok.ensures.ok c.fill.ensures.sees c.fill.ensures.keeps c.fill.ensures.set
