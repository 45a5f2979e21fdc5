use Rattle.std.proofs.Common.{◌≡◌, drop}
use Rattle.mv_unfold.specs.Driven.{with_latches}
use Rattle.mv_unfold.proofs.counts.add_latches.Given as goal

abbrev pub invariant-loop-latch : goal.invariant-loop-latch
invariant-loop-latch l = with_latches l.nets l.counts (drop l.latch-index l.latches) ≡ with_latches l.nets l.fn.counts l.latches
