use Rattle.std.proofs.Common.{◌≡◌, drop}
use Rattle.mv_unfold.specs.Driven.{with_tables}
use Rattle.mv_unfold.proofs.counts.add_tables.Given as goal

abbrev pub invariant-loop-table : goal.invariant-loop-table
invariant-loop-table l = with_tables l.nets l.counts (drop l.table-index l.tables) ≡ with_tables l.nets l.fn.counts l.tables
