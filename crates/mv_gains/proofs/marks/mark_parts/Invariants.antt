use Rattle.std.proofs.Common.{take}
use Rattle.mv_gains.specs.Known.{ArePartsOn, IsMarked}
use Rattle.mv_gains.proofs.marks.mark_parts.Given as goal

abbrev pub invariant-loop-part : goal.invariant-loop-part
invariant-loop-part l = IsMarked l.now (ArePartsOn (take l.part-index l.parts)) l.fn.changed.items l.changed.items
