use Rattle.mv_cover.specs.Marks.{narrow_marks}
use Rattle.mv_cover.proofs.Marking.{Gathers}
use Rattle.mv_cover.proofs.marks.all_narrow.Given as goal

abbrev pub invariant-loop-l : goal.invariant-loop-l
invariant-loop-l l = Gathers narrow_marks l.lits l.l-index l.marks
