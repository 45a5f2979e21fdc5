use Rattle.std.proofs.Common.{ℕ, List, Option, ◌++◌, take}
use Rattle.mv_cover.specs.declared.cover.Cover.{Cover}
use Rattle.mv_net.specs.NewRows.{added_tables, AreRows}
use Rattle.mv_net.proofs.new_rows.push_added.Given as goal

abbrev pub invariant-loop-place : goal.invariant-loop-place
invariant-loop-place l = (tables : List (ℕ × Option Cover)) → AreRows tables l.fn.rows → AreRows (tables ++ added_tables l.first (take l.place l.add)) l.rows
