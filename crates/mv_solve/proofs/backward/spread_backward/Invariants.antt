use Rattle.std.proofs.Common.{◌≤◌, length}
use Rattle.mv_solve.specs.Known.{IsKnown}
use Rattle.mv_solve.proofs.backward.spread_backward.Given as goal

abbrev pub invariant-loop-place : goal.invariant-loop-place
invariant-loop-place l = record {
  low : l.place ≤ length l.order;
  known : IsKnown l.net.nets l.initial.known l.known;
}

abbrev pub decreases-loop-place : goal.decreases-loop-place
decreases-loop-place l = l.place
