-- The verdict tells it.
use Rattle.mv_plans.proofs.Narrowed.{verdict_answers}
use Rattle.mv_plans.proofs.lawful.judged_with.Goals as goal

pub returns-in-Ok : goal.returns-in-Ok
returns-in-Ok c = λ net n d u budget old here table reads.
    verdict_answers net n d u budget old c.args.table.now table c.of_verdict.result c.in-Ok.verdict (c.in-Ok.ensures net n d u budget old here table reads) c.of_verdict.ensures
