use Rattle.std.proofs.Common.{◌≡◌, drop}
use Rattle.mv_flat.specs.Gathered.{with_places}
use Rattle.mv_flat.specs.Shared.{KeepsOrigins}
use Rattle.mv_flat.proofs.numbers.add_places.Given as goal

abbrev pub invariant-loop-table : goal.invariant-loop-table
invariant-loop-table l = record {
  names : with_places l.decls l.names (drop l.table-index l.tables) ≡ with_places l.decls l.fn.names l.tables;
  kept : KeepsOrigins l.fn.shared l.shared;
}
