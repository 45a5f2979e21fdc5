use Rattle.std.proofs.Common.{◌-◌, ◌≤◌, length}
use Rattle.mv_base.proofs.host.Source.fill.Given as goal

abbrev pub decreases-loop-filled : goal.decreases-loop-filled
decreases-loop-filled g l = length l.initial.room - l.filled

abbrev pub invariant-loop-filled : goal.invariant-loop-filled
invariant-loop-filled g l = l.filled ≤ length l.room
