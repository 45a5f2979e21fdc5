use Rattle.std.proofs.Common.{take}
use Rattle.mv_composite.specs.Takers.{PutsLight}
use Rattle.mv_composite.proofs.lightest.put_light.Given as goal

abbrev pub invariant-loop-line : goal.invariant-loop-line
invariant-loop-line l = PutsLight l.cap l.fn.left l.left (take l.line-index l.lines)
