use Rattle.std.proofs.Common.{◌-◌, ◌+◌, length}
use Rattle.mv_cover.specs.Containing.{lies_in}
use Rattle.mv_cover.proofs.Walking.{Walked}
use Rattle.mv_cover.proofs.contain.all_lie_in.Given as goal

abbrev pub invariant-walk : goal.invariant-walk
invariant-walk l = Walked lies_in l.a l.b l.i l.j

abbrev pub decreases-walk : goal.decreases-walk
decreases-walk l = (length l.a - l.i) + (length l.b - l.j)
