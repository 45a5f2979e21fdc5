use Rattle.std.proofs.Common.{◌∙◌, ap}
use Rattle.mv_merging.specs.Verdicts.{table_splits}
use Rattle.mv_merging.proofs.verdict.held_splits.Goals as goal

pub returns-in-None : goal.returns-in-None
returns-in-None c = ap (table_splits c.args.n.0 c.args.u.0 c.args.v.0) c.in-None.ensures

pub returns-in-Some : goal.returns-in-Some
returns-in-Some c = c.cover_splits.ensures ∙ ap (table_splits c.args.n.0 c.args.u.0 c.args.v.0) c.in-Some.ensures
