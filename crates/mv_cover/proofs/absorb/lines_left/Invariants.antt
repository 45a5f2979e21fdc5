use Rattle.std.proofs.Common.{take}
use Rattle.mv_cover.specs.Absorb.{IsLeftOf}
use Rattle.mv_cover.proofs.absorb.lines_left.Given as goal

abbrev pub invariant-loop-line : goal.invariant-loop-line
invariant-loop-line l = IsLeftOf (take l.line-index l.lines) l.left
