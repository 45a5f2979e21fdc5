use Rattle.std.proofs.Common.{take}
use Rattle.mv_cover.specs.Complement.{LinesSuit}
use Rattle.mv_cover.proofs.suit.lines_suit.Given as goal

abbrev pub invariant-loop-line : goal.invariant-loop-line
invariant-loop-line l = LinesSuit l.counts (take l.line-index l.lines)
