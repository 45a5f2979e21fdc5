use Rattle.std.proofs.Common.{◌≡◌, ◌<◌, ◌≤◌, ◌+◌, true, slice_index}
use Rattle.mv_diagram.specs.Sets.{Point, holds, has_diagram}
use Rattle.mv_diagram.specs.Sound.{first, order}
use Rattle.mv_diagram.specs.Works.{AddsNodes}
use Rattle.mv_diagram.specs.Parts.{AddsParts}
use Rattle.mv_diagram.proofs.Literals.{limited}
use Rattle.mv_diagram.proofs.literal.literal_in.Given as goal

abbrev pub invariant-loop-value : goal.invariant-loop-value
invariant-loop-value l = record {
  adds : AddsNodes l.fn.table l.table;
  below : l.value < slice_index l.table.counts.items l.var;
  there : has_diagram l.table.pool.places l.d.0 ≡ true;
  behind : order (l.var + 1) 0 ≤ first l.table.counts.items l.table.pool.places l.d.0;
  held : has_diagram l.table.pool.places l.rest.0 ≡ true;
  later : order l.var l.value ≤ first l.table.counts.items l.table.pool.places l.rest.0;
  set : (p : Point) → holds l.table.counts.items l.table.pool.places l.rest.0 p ≡ limited l.table.counts.items l.var l.set l.value (λ q. holds l.fn.table.counts.items l.fn.table.pool.places l.d.0 q) p;
  parts : AddsParts l.table.counts.items l.fn.table.pool.places l.table.pool.places (limited l.table.counts.items l.var l.set l.value (λ q. holds l.fn.table.counts.items l.fn.table.pool.places l.d.0 q));
}

abbrev pub decreases-loop-value : goal.decreases-loop-value
decreases-loop-value l = l.value
