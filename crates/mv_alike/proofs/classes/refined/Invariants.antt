use Rattle.mv_alike.proofs.Cutting.{AreFirsts}
use Rattle.mv_alike.proofs.classes.refined.Given as goal

abbrev pub invariant-loop-at : goal.invariant-loop-at
invariant-loop-at l = AreFirsts l.classes l.set l.at l.firsts.items l.new.items
