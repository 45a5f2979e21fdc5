use Rattle.std.proofs.Common.{length, ◌-◌, ◌≤◌}
use Rattle.mv_pool.specs.Places.{least_free}
use Rattle.mv_pool.proofs.pool.next_free.Given as goal

abbrev pub invariant-loop-at : goal.invariant-loop-at
invariant-loop-at g l = l.at ≤ least_free l.places

abbrev pub decreases-loop-at : goal.decreases-loop-at
decreases-loop-at g l = length l.places - l.at
