use Rattle.mv_cover.proofs.Suiting.{SuitsBehind}
use Rattle.mv_cover.proofs.suit.all_suit.Given as goal

abbrev pub invariant-loop-l : goal.invariant-loop-l
invariant-loop-l l = SuitsBehind l.counts l.lits l.l-index
