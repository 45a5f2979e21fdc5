-- Of two readers or more it is shared, unless it is plainly deterministic.
use Rattle.std.proofs.Common.{inr, arith}
use Rattle.mv_meaning.proofs.Rewired.{one_reader}
use Rattle.mv_plans.proofs.Named.{unshared_plain}
use Rattle.mv_plans.proofs.collapse.is_unshared.Goals as goal

pub returns-then-readers-gt1 : goal.returns-then-readers-gt1
returns-then-readers-gt1 c =
    unshared_plain c.is_plainly_deterministic.result c.args.net.now.nets c.args.n.0 c.readers.result.now c.readers.ensures c.if-readers-gt1.true c.is_plainly_deterministic.ensures

pub returns : goal.returns
returns c = inr (one_reader c.args.net.now.nets c.args.n.0 c.readers.result.now c.readers.ensures (omega (arith, c.if-readers-gt1.false)))
