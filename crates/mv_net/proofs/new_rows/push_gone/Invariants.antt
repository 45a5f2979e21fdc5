use Rattle.std.proofs.Common.{ℕ, List, Option, ◌++◌, map, take}
use Rattle.mv_cover.specs.declared.cover.Cover.{Cover}
use Rattle.mv_net.specs.NewRows.{no_table, AreRows}
use Rattle.mv_net.proofs.new_rows.push_gone.Given as goal

abbrev pub invariant-loop-net : goal.invariant-loop-net
invariant-loop-net l = (tables : List (ℕ × Option Cover)) → AreRows tables l.fn.rows → AreRows (tables ++ map no_table (take l.net-index l.gone)) l.rows
