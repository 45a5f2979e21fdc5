use Rattle.std.proofs.Common.{◌≡◌, ◌≤◌, ◌-◌, ◌*◌, true, length}
use Rattle.mv_base.specs.declared.limits.TheConstants.{MAX_VALUES}
use Rattle.mv_diagram.specs.Sets.{Point, greatest, holds, has_diagram, with_value}
use Rattle.mv_diagram.specs.Sound.{first, order}
use Rattle.mv_diagram.proofs.table.otherwise.Given as goal

abbrev pub invariant-loop-next : goal.invariant-loop-next
invariant-loop-next l = record {
  held : has_diagram l.table.pool.places l.rest.0 ≡ true;
  later : order l.var 0 ≤ first l.table.counts.items l.table.pool.places l.rest.0;
  set : (p : Point) → holds l.table.counts.items l.table.pool.places l.rest.0 (with_value p l.var (greatest l.table.counts.items l.var)) ≡ holds l.table.counts.items l.table.pool.places l.fn.d.0 (with_value p l.var (greatest l.table.counts.items l.var));
}

abbrev pub decreases-loop-next : goal.decreases-loop-next
decreases-loop-next l = length l.table.counts.items * MAX_VALUES - first l.table.counts.items l.table.pool.places l.rest.0
