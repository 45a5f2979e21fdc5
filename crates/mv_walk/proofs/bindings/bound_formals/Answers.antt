use Rattle.std.proofs.Common.{◌≡◌}
use Rattle.mv_walk.proofs.Lookups.{bound_next}
use Rattle.mv_walk.proofs.bindings.bound_formals.Goals as goal

pub loop-bind-preserved : goal.loop-bind-preserved
loop-bind-preserved c =
    let e : c.in_ok-copy.field-0 ≡ c.bind-item.result.formal = c.in_ok-copy.ensures in
    bound_next c.args.binds.now c.loop-bind.bound c.add.new.self c.loop-bind.bind-index c.bind-item.result c.loop-bind.invariant c.loop-bind-test.true c.bind-item.is
    (rw e at c.in_ok-add.ensures.ok)
