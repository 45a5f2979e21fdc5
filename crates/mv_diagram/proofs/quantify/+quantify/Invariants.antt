use Rattle.std.proofs.Common.{◌-◌, ◌*◌, length, min}
use Rattle.mv_base.specs.declared.limits.TheConstants.{MAX_VALUES}
use Rattle.mv_diagram.specs.Sound.{first}
use Rattle.mv_diagram.proofs.quantify.+quantify.Given as goal

abbrev pub decreases-quantify : goal.decreases-quantify
decreases-quantify l = length l.table.now.counts.items * MAX_VALUES - min (first l.table.now.counts.items l.table.now.pool.places l.a.0) (first l.table.now.counts.items l.table.now.pool.places l.b.0)
