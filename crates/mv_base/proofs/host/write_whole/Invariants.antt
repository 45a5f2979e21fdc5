use Rattle.std.proofs.Common.{◌-◌, ◌≤◌, length}
use Rattle.mv_base.proofs.host.write_whole.Given as goal

abbrev pub decreases-loop-done : goal.decreases-loop-done
decreases-loop-done g l = length l.piece - l.done

abbrev pub invariant-loop-done : goal.invariant-loop-done
invariant-loop-done g l = l.done ≤ length l.piece
