-- For each value the literals of its lines so far.
use Rattle.std.proofs.Common.{take}
use Rattle.mv_default.specs.Summing.{AreSums}
use Rattle.mv_default.proofs.costly.literal_sums.Given as goal

abbrev pub invariant-loop-line : goal.invariant-loop-line
invariant-loop-line l = AreSums (take l.line-index l.lines) l.values l.sums.items
