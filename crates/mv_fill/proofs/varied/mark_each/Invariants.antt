-- The nets so far are marked.
use Rattle.std.proofs.Common.{take}
use Rattle.mv_fill.specs.Filling.{AreMarked}
use Rattle.mv_fill.proofs.varied.mark_each.Given as goal

abbrev pub invariant-loop-n : goal.invariant-loop-n
invariant-loop-n l = AreMarked l.net.nets (take l.n-index l.order) l.marks
