use Rattle.std.proofs.Common.{◌≡◌, drop}
use Rattle.mv_unfold.specs.Driven.{twice_counted}
use Rattle.mv_unfold.proofs.driving.check_twice.Given as goal

abbrev pub invariant-loop-at : goal.invariant-loop-at
invariant-loop-at l = twice_counted (drop l.at l.names) (drop l.at l.counts) ≡ twice_counted l.names l.counts
