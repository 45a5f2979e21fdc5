use Rattle.std.proofs.Common.{◌-◌, length}
use Rattle.mv_cover.proofs.Marking.{Stands}
use Rattle.mv_cover.proofs.left.standing_among.Given as goal

abbrev pub invariant-loop-place : goal.invariant-loop-place
invariant-loop-place l = Stands l.line l.others l.over l.place

abbrev pub decreases-loop-place : goal.decreases-loop-place
decreases-loop-place l = length l.marks - l.place
