-- The fanins so far have plain tables, and none but such above them.
use Rattle.std.proofs.Common.{take}
use Rattle.mv_fill.proofs.Marking.{ArePlainTo}
use Rattle.mv_fill.proofs.varied.is_varied.Given as goal

abbrev pub invariant-loop-fanin : goal.invariant-loop-fanin
invariant-loop-fanin l = ArePlainTo l.net.nets (take l.fanin-index l.fanin-items)
