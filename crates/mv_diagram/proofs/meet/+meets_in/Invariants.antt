use Rattle.std.proofs.Common.{◌-◌, ◌*◌, length}
use Rattle.mv_base.specs.declared.limits.TheConstants.{MAX_VALUES}
use Rattle.mv_diagram.specs.Choices.{AreMissed, LeadsTo}
use Rattle.mv_diagram.specs.Sound.{first}
use Rattle.mv_diagram.proofs.meet.+meets_in.Given as goal

abbrev pub decreases-meets_in : goal.decreases-meets_in
decreases-meets_in l = length l.table.now.counts.items * MAX_VALUES - first l.table.now.counts.items l.table.now.pool.places l.d.0

abbrev pub invariant-loop-next : goal.invariant-loop-next
invariant-loop-next l = record {
  leads : LeadsTo l.table.counts.items l.table.pool.places l.sets l.d.0 l.front.test.var l.left l.rest.0;
  missed : AreMissed l.table.counts.items l.table.pool.places l.sets l.marks;
}

abbrev pub decreases-loop-next : goal.decreases-loop-next
decreases-loop-next l = length l.table.counts.items * MAX_VALUES - first l.table.counts.items l.table.pool.places l.rest.0
