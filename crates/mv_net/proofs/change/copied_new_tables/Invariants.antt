use Rattle.std.proofs.Common.{◌≡◌, take}
use Rattle.mv_net.proofs.change.copied_new_tables.Given as goal

abbrev pub invariant-loop-table : goal.invariant-loop-table
invariant-loop-table l = l.copies ≡ take l.table-index l.table-items
