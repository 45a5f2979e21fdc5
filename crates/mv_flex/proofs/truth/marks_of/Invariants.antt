use Rattle.mv_flex.specs.Truths.{Tells}
use Rattle.mv_flex.proofs.truth.marks_of.Given as goal

abbrev pub invariant-loop-number : goal.invariant-loop-number
invariant-loop-number l = Tells l.net.nets l.n.0 l.space l.number l.marks
