use Rattle.std.proofs.Common.{◌≡◌, [], drop}
use Rattle.mv_unfold.specs.Driven.{with_binds}
use Rattle.mv_unfold.proofs.counts.add_binds.Given as goal

abbrev pub invariant-loop-bind : goal.invariant-loop-bind
invariant-loop-bind l =
    with_binds l.nets l.counts l.inner l.inner_counts l.seen (drop l.bind-index l.binds) ≡ with_binds l.nets l.fn.counts l.inner l.inner_counts [] l.binds
