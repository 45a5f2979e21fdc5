use Rattle.std.proofs.Common.{◌≤◌}
use Rattle.mv_solve.specs.Marks.{MarkedWithin}
use Rattle.mv_solve.proofs.marks.end_of_marked.Given as goal

abbrev pub invariant-loop-end : goal.invariant-loop-end
invariant-loop-end l = record {
  within : MarkedWithin l.marks l.order l.start l.end;
  low : l.end ≤ l.place;
  above : l.start ≤ l.end;
}

abbrev pub decreases-loop-end : goal.decreases-loop-end
decreases-loop-end l = l.end
