use Rattle.std.proofs.Common.{take}
use Rattle.mv_body.specs.Bodies.{AreLiterals}
use Rattle.mv_body.proofs.literal.checked_literals.Given as goal

abbrev pub invariant-loop-literal : goal.invariant-loop-literal
invariant-loop-literal l = AreLiterals l.net.nets (take l.literal-index l.lits) l.said.items
