-- The net may come, and the change brings it.
use Rattle.std.proofs.Common.{◌∙◌, ap}
use Rattle.mv_plans.proofs.Added.{coming, planned}
use Rattle.mv_plans.proofs.add.plan_add.Goals as goal

pub returns-in-Ok-coming : goal.returns-in-Ok-coming
returns-in-Ok-coming c =
    planned c.args.net.now c.args.name.now c.args.body.now c.in-Ok-coming.change c.well_formed-2.ensures c.in-Ok.ensures.0 (c.in-Ok-coming.ensures ∙ ap (coming c.args.name.now) c.in-Ok.ensures.1)
