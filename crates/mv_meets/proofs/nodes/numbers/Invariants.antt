use Rattle.mv_meets.specs.Search.{AreNumbers}
use Rattle.mv_meets.proofs.nodes.numbers.Given as goal

abbrev pub invariant-loop-number : goal.invariant-loop-number
invariant-loop-number l = AreNumbers l.number l.list.items
