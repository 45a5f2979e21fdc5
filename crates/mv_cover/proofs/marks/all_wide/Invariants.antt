use Rattle.mv_cover.specs.Marks.{wide_marks}
use Rattle.mv_cover.proofs.Marking.{Gathers}
use Rattle.mv_cover.proofs.marks.all_wide.Given as goal

abbrev pub invariant-loop-l : goal.invariant-loop-l
invariant-loop-l l = Gathers wide_marks l.lits l.l-index l.marks
