use Rattle.std.proofs.Common.{◌≡◌, length}
use Rattle.mv_diagram.specs.Found.{AreSeen}
use Rattle.mv_diagram.proofs.found.mark_tested.Given as goal

abbrev pub invariant-loop-place : goal.invariant-loop-place
invariant-loop-place l = record {
  long : length l.seen ≡ length l.table.counts.items;
  seen : AreSeen l.table.pool.places l.found l.place-index l.seen;
}
