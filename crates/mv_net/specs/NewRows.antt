-- The rows that a change gives nets in the graph. For private functions.
use Rattle.std.specs.Prelude.{◌≡◌, ℕ, ◌+◌, ◌<◌, ◌≤◌, true, Option, Some, None, List, [], ◌∷◌, ◌++◌, map, length, All}
use Rattle.mv_base.specs.declared.limits.TheConstants.{MAX_NETS}
use Rattle.mv_base.specs.declared.number.NetId.{NetId}
use Rattle.mv_cover.specs.declared.cover.Cover.{Cover}
use Rattle.mv_graph.specs.Nets.{row, all_differ, ids_ascend, IsAscending, AllBelow}
use Rattle.mv_graph.specs.Above.{IsAcyclic, reads_by}
use Rattle.mv_dag.specs.declared.new_rows.NewRow.{NewRow}
use Rattle.mv_dag.specs.Rows.{nets_of, changed_rows}
use Rattle.mv_net.specs.declared.change.NewNet.{NewNet}
use Rattle.mv_net.specs.declared.change.NewTable.{NewTable}
use Rattle.mv_net.specs.declared.change.Change.{Change}
use Rattle.mv_net.specs.declared.kept.Kept.{Kept}
use Rattle.mv_net.specs.declared.parts.FlatNet.{FlatNet}
use Rattle.mv_net.specs.Fresh.{AreMade}
use Rattle.mv_net.specs.Names.{AreNames}
use Rattle.mv_net.specs.Nets.{table_reads}
use Rattle.mv_net.specs.Tallies.{AreTallies}

-- a number without a table, and one with another table
abbrev pub no_table : NetId → ℕ × Option Cover
no_table n = (n.0, None)

abbrev pub new_table : NewTable → ℕ × Option Cover
new_table t = (t.net.0, Some t.table)

-- the numbers of nets that come, from k on, with their tables
abbrev pub added_tables : ℕ → List NewNet → List (ℕ × Option Cover)
added_tables k [] = []
added_tables k (m ∷ ms) = (k, Some m.table) ∷ added_tables (k + 1) ms

-- each number whose table is another behind the change, with that table, where the nets that come
-- get the numbers from k on
abbrev pub tables_of : Change → ℕ → List (ℕ × Option Cover)
tables_of c k = (map no_table c.gone ++ map new_table c.set) ++ added_tables k c.add

-- the row has what the table reads
pub record IsRow (asked : ℕ × Option Cover) (r : NewRow) : Type 0 where
  pub net : r.net.0 ≡ asked.0
  pub fanins : IsAscending (table_reads asked.1) r.fanins

-- one row for each number and table
abbrev pub AreRows : List (ℕ × Option Cover) → List NewRow → Type 0
AreRows [] [] = Unit {0}
AreRows [] (r ∷ rs) = ⊥
AreRows (q ∷ qs) [] = ⊥
AreRows (q ∷ qs) (r ∷ rs) = IsRow q r × AreRows qs rs

-- a graph can take so many numbers and these rows
pub record CanTake (fanins : List (List NetId)) (added : ℕ) (rows : List NewRow) : Type 0 where
  pub few : length fanins + added ≤ MAX_NETS
  pub once : all_differ (nets_of rows) ≡ true
  pub nets : All (λ (r : NewRow). r.net.0 < length fanins + added) rows
  pub ascend : (n : ℕ) → ids_ascend (row (changed_rows rows added fanins) n) ≡ true
  pub below : AllBelow (changed_rows rows added fanins)
  pub acyclic : IsAcyclic (reads_by (changed_rows rows added fanins))

-- what is kept by number and by name is that of the nets, and the graph is this one
pub record IsTaken (nets : List (Option FlatNet)) (fanins : List (List NetId)) (kept : Kept)
    : Type 0 where
  pub tallies : AreTallies nets kept.tallies
  pub names : AreNames nets kept.names
  pub made : AreMade nets kept.made
  pub graph : kept.graph ≡ fanins
