use Rattle.std.proofs.Common.{take, All}
use Rattle.mv_body.specs.Bodies.{IsLineKnown}
use Rattle.mv_body.proofs.known.is_known.Given as goal

abbrev pub invariant-loop-line : goal.invariant-loop-line
invariant-loop-line l = All (IsLineKnown l.net.nets) (take l.line-index l.line-items)
