use Rattle.std.proofs.Common.{◌≡◌, drop}
use Rattle.mv_unfold.specs.Driven.{with_driven}
use Rattle.mv_unfold.proofs.counts.add_all.Given as goal

abbrev pub invariant-loop-net : goal.invariant-loop-net
invariant-loop-net l = with_driven l.nets l.counts (drop l.net-index l.driven) ≡ with_driven l.nets l.fn.counts l.driven
