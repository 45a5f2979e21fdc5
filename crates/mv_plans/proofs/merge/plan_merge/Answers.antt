-- The value can go, and the change takes it away.
use Rattle.mv_plans.proofs.Merged.{planned}
use Rattle.mv_plans.proofs.merge.plan_merge.Goals as goal

pub returns-in-Ok-merge_change : goal.returns-in-Ok-merge_change
returns-in-Ok-merge_change c =
    planned c.args.net.now c.args.name.now c.in-Some.n.0 c.args.gone c.args.into c.in-Ok-merge_change.change c.well_formed-2.ensures c.few.ensures c.in-Some.ensures
    c.in-Ok.ensures.0 c.in-Ok.ensures.1 c.in-Ok-merge_change.ensures.makes c.in-Ok-merge_change.ensures.fits c.in-Ok-merge_change.ensures.adds
