-- Graphs of nets without cycles that keep their readers and an order.
use Rattle.std.specs.Prelude.{◌≡◌, ℕ, ◌≤◌, true, List, length}
use Rattle.mv_base.specs.declared.number.NetId.{NetId}
use Rattle.mv_base.specs.declared.limits.TheConstants.{MAX_NETS}
use Rattle.mv_graph.specs.Nets.{row, ids_ascend, AllBelow}
use Rattle.mv_graph.specs.Transpose.{IsTranspose}
use Rattle.mv_dag.specs.Ordered.{IsOrdered}

-- ascending lists of fanins, each of one of the numbers; the readers are those lists turned round,
-- and the labels fall
pub record IsDag (fanins readers : List (List NetId)) (labels : List ℕ) : Type 0 where
  pub ascend : (n : ℕ) → ids_ascend (row fanins n) ≡ true
  pub below : AllBelow fanins
  pub turned : IsTranspose fanins readers
  pub ordered : IsOrdered fanins labels
  pub few : length fanins ≤ MAX_NETS
