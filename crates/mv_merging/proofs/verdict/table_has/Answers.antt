use Rattle.std.proofs.Common.{◌∙◌, ap}
use Rattle.mv_merging.specs.Verdicts.{table_has}
use Rattle.mv_merging.proofs.verdict.table_has.Goals as goal

pub returns-in-None : goal.returns-in-None
returns-in-None c = ap (table_has c.args.v.0) c.in-None.ensures

pub returns-in-Some : goal.returns-in-Some
returns-in-Some c = c.cover_has.ensures ∙ ap (table_has c.args.v.0) c.in-Some.ensures
