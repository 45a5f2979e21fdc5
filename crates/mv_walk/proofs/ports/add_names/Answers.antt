use Rattle.std.proofs.Common.{◌≡◌}
use Rattle.mv_walk.proofs.Lookups.{added_next}
use Rattle.mv_walk.proofs.ports.add_names.Goals as goal

pub loop-name-preserved : goal.loop-name-preserved
loop-name-preserved c =
    let e : c.in_ok-copy.field-0 ≡ c.name-item.result = c.in_ok-copy.ensures in
    added_next c.args.set.now c.args.names.now c.loop-name.set c.add.new.self c.loop-name.name-index c.name-item.result c.loop-name.invariant c.loop-name-test.true c.name-item.is
    (rw e at c.in_ok-add.ensures.ok)
