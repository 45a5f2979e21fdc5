use Rattle.std.proofs.Common.{◌≡◌, map, take}
use Rattle.mv_flat.specs.Numbers.{column_of}
use Rattle.mv_flat.proofs.columns.declared_columns.Given as goal

abbrev pub invariant-loop-net : goal.invariant-loop-net
invariant-loop-net l = l.columns.items ≡ map (column_of l.decls l.names) (take l.net-index l.net-items)
