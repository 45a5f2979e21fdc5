use Rattle.std.proofs.Common.{◌≡◌, drop}
use Rattle.std.specs.List.{flat_map}
use Rattle.mv_design.specs.Nets.{nets_driven}
use Rattle.mv_acyclic.specs.Driving.{with_names}
use Rattle.mv_acyclic.proofs.drivers.add_tables.Given as goal

abbrev pub invariant-loop-table : goal.invariant-loop-table
invariant-loop-table l = with_names l.names (flat_map nets_driven (drop l.table-index l.tables)) ≡ with_names l.fn.names (flat_map nets_driven l.tables)
