-- The nets so far are marked, which are the last ones.
use Rattle.std.proofs.Common.{◌-◌, drop, length}
use Rattle.mv_partial.specs.Partial.{AreMarked}
use Rattle.mv_partial.proofs.partial.mark_each.Given as goal

abbrev pub invariant-loop-done : goal.invariant-loop-done
invariant-loop-done l = AreMarked l.net.nets (drop (length l.order - l.done) l.order) l.marks
