use Rattle.std.proofs.Common.{◌≡◌, ◌-◌, ◌*◌, true, length}
use Rattle.mv_base.specs.declared.limits.TheConstants.{MAX_VALUES}
use Rattle.mv_diagram.specs.Diagrams.{point_of}
use Rattle.mv_diagram.specs.Sets.{holds, has_diagram}
use Rattle.mv_diagram.specs.Sound.{first}
use Rattle.mv_diagram.proofs.look.contains.Given as goal

abbrev pub invariant-loop-next : goal.invariant-loop-next
invariant-loop-next l = record {
  held : has_diagram l.table.pool.places l.at.0 ≡ true;
  set : holds l.table.counts.items l.table.pool.places l.fn.d.0 (point_of l.point) ≡ holds l.table.counts.items l.table.pool.places l.at.0 (point_of l.point);
}

abbrev pub decreases-loop-next : goal.decreases-loop-next
decreases-loop-next l = length l.table.counts.items * MAX_VALUES - first l.table.counts.items l.table.pool.places l.at.0
