use Rattle.std.proofs.Common.{take}
use Rattle.mv_gains.specs.Grown.{IsOneOf}
use Rattle.mv_gains.specs.Known.{IsLiteralOn, IsMarked}
use Rattle.mv_gains.proofs.marks.mark_literals.Given as goal

abbrev pub invariant-loop-literal : goal.invariant-loop-literal
invariant-loop-literal l = IsMarked l.now (IsOneOf IsLiteralOn (take l.literal-index l.literals)) l.fn.changed.items l.changed.items
