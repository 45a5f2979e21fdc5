-- The net can go, and the change takes it away.
use Rattle.mv_plans.proofs.Removed.{planned}
use Rattle.mv_plans.proofs.remove.plan_remove.Goals as goal

pub returns-in-Ok-leaving : goal.returns-in-Ok-leaving
returns-in-Ok-leaving c =
    planned c.args.net.now c.args.name.now c.in-Some.n c.in-Ok-leaving.change c.well_formed-2.ensures c.few.ensures c.in-Some.ensures c.in-Ok.ensures c.in-Ok-leaving.ensures
