use Rattle.std.proofs.Common.{◌≡◌, ◌≤◌, ◌++◌, drop}
use Rattle.mv_base.specs.declared.limits.TheConstants.{MAX_VALUES}
use Rattle.mv_rows.specs.Meeting.{literals_of, literals_from}
use Rattle.mv_rows.proofs.cube.put_literals.Given as goal

abbrev pub invariant-loop-placed : goal.invariant-loop-placed
invariant-loop-placed l = record {
  few : l.group.column.count ≤ MAX_VALUES;
  left : l.lits.items ++ literals_from l.sets l.group (drop l.placed-index l.order) ≡ literals_of l.sets l.order;
}
