use Rattle.std.proofs.Common.{ℕ, List, Option, ◌++◌, map, take}
use Rattle.mv_cover.specs.declared.cover.Cover.{Cover}
use Rattle.mv_net.specs.NewRows.{new_table, AreRows}
use Rattle.mv_net.proofs.new_rows.push_set.Given as goal

abbrev pub invariant-loop-new : goal.invariant-loop-new
invariant-loop-new l = (tables : List (ℕ × Option Cover)) → AreRows tables l.fn.rows → AreRows (tables ++ map new_table (take l.new-index l.set)) l.rows
