use Rattle.std.proofs.Common.{◌≡◌, None, replicate}
use Rattle.mv_unfold.proofs.recent.empty.Given as goal

abbrev pub invariant-loop-at : goal.invariant-loop-at
invariant-loop-at l = l.slots ≡ replicate l.at None
