use Rattle.std.proofs.Common.{◌≤◌, ◌-◌, length}
use Rattle.mv_cover.specs.Marks.{AreFar}
use Rattle.mv_cover.proofs.left.next_close.Given as goal

abbrev pub invariant-loop-place : goal.invariant-loop-place
invariant-loop-place l = record { later : l.from ≤ l.place; within : l.place ≤ length l.marks; far : AreFar l.own l.marks l.from l.place }

abbrev pub decreases-loop-place : goal.decreases-loop-place
decreases-loop-place l = length l.marks - l.place
