use Rattle.std.proofs.Common.{◌≡◌, ◌+◌, length, take}
use Rattle.std.specs.List.{flat_map}
use Rattle.mv_design.specs.Nets.{nets_driven}
use Rattle.mv_acyclic.proofs.seen.count_drivers.Given as goal

abbrev pub invariant-loop-table : goal.invariant-loop-table
invariant-loop-table l = l.count ≡ length l.model.inputs + length l.model.latches + length (flat_map nets_driven (take l.table-index l.model.tables))
