use Rattle.std.proofs.Common.{◌≡◌, ℕ, take}
use Rattle.mv_graph.specs.Nets.{has_id}
use Rattle.mv_wide.specs.Inners.{touches}
use Rattle.mv_wide.proofs.nets.nets_of.Given as goal

abbrev pub invariant-loop-table : goal.invariant-loop-table
invariant-loop-table l = (m : ℕ) → has_id l.found.keys m ≡ touches l.net.nets (take l.table-index l.tables) m
