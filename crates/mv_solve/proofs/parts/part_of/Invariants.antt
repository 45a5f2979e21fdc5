use Rattle.std.proofs.Common.{◌<◌, length}
use Rattle.mv_solve.proofs.parts.part_of.Given as goal

abbrev pub invariant-loop-part : goal.invariant-loop-part
invariant-loop-part l = l.part < length l.parts

abbrev pub decreases-loop-part : goal.decreases-loop-part
decreases-loop-part l = l.part
