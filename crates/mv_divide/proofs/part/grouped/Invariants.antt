use Rattle.std.proofs.Common.{take}
use Rattle.mv_divide.specs.Grouped.{AreGrouped}
use Rattle.mv_divide.proofs.part.grouped.Given as goal

abbrev pub invariant-loop-place : goal.invariant-loop-place
invariant-loop-place l = AreGrouped (take l.place l.lines) l.groups.outs.keys l.groups.groups.items
