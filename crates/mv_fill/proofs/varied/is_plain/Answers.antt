-- A net without a table is plain, and the table of another decides.
use Rattle.mv_fill.proofs.Marking.{bare_plain, tabled_plain}
use Rattle.mv_fill.proofs.varied.is_plain.Goals as goal

pub returns-in_default : goal.returns-in_default
returns-in_default c = bare_plain c.args.net.now.nets c.args.n.0 c.in_default.ensures

pub returns : goal.returns
returns c = tabled_plain c.args.net.now.nets c.args.n.0 _ _ c.in-Some.ensures c.is_plainly_deterministic.ensures
