use Rattle.std.proofs.Common.{◌≡◌, drop}
use Rattle.mv_unfold.specs.Driven.{undriven_counted}
use Rattle.mv_unfold.proofs.driving.check_undriven.Given as goal

abbrev pub invariant-loop-at : goal.invariant-loop-at
invariant-loop-at l = undriven_counted (drop l.at l.names) (drop l.at l.counts) ≡ undriven_counted l.names l.counts
