use Rattle.std.proofs.Common.{◌≡◌, drop}
use Rattle.mv_unfold.specs.Driven.{with_instances}
use Rattle.mv_unfold.proofs.counts.add_instances.Given as goal

abbrev pub invariant-loop-at : goal.invariant-loop-at
invariant-loop-at l =
    with_instances l.nets l.all l.slots l.counts (drop l.at l.instances) (drop l.at l.row) ≡ with_instances l.nets l.all l.slots l.fn.counts l.instances l.row
