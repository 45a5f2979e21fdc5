use Rattle.std.proofs.Common.{◌≡◌, ◌≤◌, length}
use Rattle.mv_solve.proofs.parts.link_parts.Given as goal

abbrev pub invariant-loop-place : goal.invariant-loop-place
invariant-loop-place l = record {
  low : l.place ≤ length l.order;
  heads : length l.heads ≡ length l.initial.heads;
  nexts : length l.nexts ≡ length l.initial.nexts;
}

abbrev pub decreases-loop-place : goal.decreases-loop-place
decreases-loop-place l = l.place
