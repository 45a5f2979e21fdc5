use Rattle.mv_gains.specs.Renewing.{AreNumbers}
use Rattle.mv_gains.proofs.gains.all_numbers.Given as goal

abbrev pub invariant-loop-number : goal.invariant-loop-number
invariant-loop-number l = AreNumbers l.number l.list.items
