-- The net is a buffer that is read, and the change gives its readers their tables.
use Rattle.mv_plans.proofs.Wired.{planned}
use Rattle.mv_plans.proofs.wire.plan_wire.Goals as goal

pub returns-in-Ok-wired_readers : goal.returns-in-Ok-wired_readers
returns-in-Ok-wired_readers c =
    planned c.args.net.now c.args.name.now c.in-Some.n.0 c.in-Ok.source.0 c.in-Ok-wired_readers.set c.rewiring.result c.well_formed-2.ensures c.few.ensures c.in-Some.ensures
    c.in-Ok.ensures.0 c.in-Ok.ensures.1 c.in-Ok-wired_readers.ensures c.rewiring.ensures
