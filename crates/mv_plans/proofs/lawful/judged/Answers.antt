-- The verdict tells it.
use Rattle.mv_plans.proofs.Narrowed.{reads_within, verdict_at}
use Rattle.mv_plans.proofs.lawful.judged.Goals as goal

pub narrow_verdict-requires-clause-reads : goal.narrow_verdict-requires-clause-reads
narrow_verdict-requires-clause-reads c = λ old table. reads_within c.args.net.now.nets c.args.n.0 old c.args.table.now table c.requires.reads

pub returns-in-Ok : goal.returns-in-Ok
returns-in-Ok c =
    verdict_at c.args.net.now c.args.n.0 c.args.d c.args.u c.args.budget c.args.table.now c.of_verdict.result c.in-Ok.verdict c.requires.table c.in-Ok.ensures c.of_verdict.ensures
