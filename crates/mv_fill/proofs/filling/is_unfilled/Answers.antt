-- A net without a table isn't such, and a table that isn't total is.
use Rattle.std.proofs.Common.{◌∙◌, sym}
use Rattle.mv_fill.proofs.Unfilled.{unheld_full, bare_full, total_full}
use Rattle.mv_fill.proofs.filling.is_unfilled.Goals as goal

pub returns-then-not-holds : goal.returns-then-not-holds
returns-then-not-holds c = unheld_full c.args.net.now.nets c.args.n.0 (sym c.holds.ensures ∙ c.if-not-holds.true)

pub returns-in_default : goal.returns-in_default
returns-in_default c = bare_full c.args.net.now.nets c.args.n.0 c.in_default.ensures

pub returns-in-Ok : goal.returns-in-Ok
returns-in-Ok c = total_full c.args.net.now.nets c.args.n.0 _ _ c.in-Some.ensures c.in-Ok.ensures
