-- How rows change places with those that their nets have, while labels move. For private functions.
use Rattle.std.specs.Prelude.{◌≡◌, ℕ, ◌<◌, ◌≤◌, true, List, [], ◌∷◌, ◌++◌, length, map, take, drop, slice_set, slice_index_or, All}
use Rattle.mv_base.specs.declared.number.NetId.{NetId}
use Rattle.mv_graph.specs.Nets.{has_id, row, all_differ, AllBelow}
use Rattle.mv_graph.specs.Above.{IsAcyclic, reads_by}
use Rattle.mv_dag.specs.declared.moves.Entry.{Entry}
use Rattle.mv_dag.specs.declared.new_rows.NewRow.{NewRow}
use Rattle.mv_dag.specs.declared.way.Way.TheVariants.{Up}
use Rattle.mv_dag.specs.Rows.{nets_of, rows_from}
use Rattle.mv_dag.specs.Ordered.{IsOrdered}
use Rattle.mv_dag.specs.Searches.{leads_to, HasReaders, Leads}
use Rattle.mv_dag.specs.Moves.{WasAt}

-- a row without fanins for the same net
abbrev pub blank : NewRow → NewRow
blank r = record { net = r.net; fanins = [] }

-- the row that its net has
abbrev pub old_of : List (List NetId) → NewRow → NewRow
old_of fanins r = record { net = r.net; fanins = row fanins r.net.0 }

-- the row at a place of the list
abbrev pub new_row_at : List NewRow → ℕ → NewRow
new_row_at rows k = let none : NewRow =
    record { net = record { 0 = 0 }; fanins = [] } in slice_index_or rows k none

-- each net reads in the one graph no more than in the other
pub record IsPart (cur goal : List (List NetId)) : Type 0 where
  pub each : (n m : ℕ) → has_id (row cur n) m ≡ true → has_id (row goal n) m ≡ true

-- the first so many rows and those that their nets had have changed places
pub record IsExchanged (k : ℕ) (first fanins : List (List NetId)) (before rows : List NewRow)
    : Type 0 where
  pub fanins_are : fanins ≡ rows_from (take k before) 0 first
  pub rows_are : rows ≡ map (old_of first) (take k before) ++ drop k before

-- labels that were moved by one list after another, and as they are now
abbrev pub WereAt : List ℕ → List (List Entry) → List ℕ → Type 0
WereAt first [] now = now ≡ first
WereAt first (es ∷ moves) now = (mid : List ℕ) × WasAt first mid es × WereAt mid moves now

-- nets may get these rows, each net one at most: behind that no net is above itself
pub record MayChange (rows : List NewRow) (fanins : List (List NetId)) : Type 0 where
  pub nets : All (λ (r : NewRow). r.net.0 < length fanins) rows
  pub once : all_differ (nets_of rows) ≡ true
  pub below : AllBelow (rows_from rows 0 fanins)
  pub acyclic : IsAcyclic (reads_by (rows_from rows 0 fanins))

-- besides, the lists have all readers that come, and the labels fall
pub record IsReady (rows : List NewRow) (fanins readers : List (List NetId)) (labels : List ℕ)
    : Type 0 where
  pub may : MayChange rows fanins
  pub listed : HasReaders (rows_from rows 0 fanins) readers
  pub ordered : IsOrdered fanins labels

-- the row may come to its net now
pub record MayEnter (fanins readers : List (List NetId)) (labels : List ℕ) (r : NewRow)
    : Type 0 where
  pub ordered : IsOrdered fanins labels
  pub below : AllBelow fanins
  pub listed : HasReaders fanins readers
  pub net : r.net.0 < length fanins
  pub new : All (λ (m : NetId). m.0 < length fanins) r.fanins
  pub free : (m : ℕ) → has_id r.fanins m ≡ true → Leads (leads_to Up fanins) m r.net.0 → ⊥

-- the row at a place came to its net, and labels moved for it
pub record HasEntered (place : ℕ) (fanins after : List (List NetId)) (rows left : List NewRow)
    (labels now : List ℕ)
    (moves more : List (List Entry)) : Type 0 where
  pub fanins_are : after
      ≡ slice_set fanins (new_row_at rows place).net.0 (new_row_at rows place).fanins
  pub rows_are : left ≡ slice_set rows place (old_of fanins (new_row_at rows place))
  pub ordered : IsOrdered after now
  pub entries : List Entry
  pub moved : WasAt labels now entries
  pub moves_are : more ≡ moves ++ entries ∷ []

-- the first so many rows came to their nets, and labels moved for each
pub record IsStage (k : ℕ) (fanins after : List (List NetId)) (rows left : List NewRow)
    (labels now : List ℕ) (moves : List (List Entry)) : Type 0 where
  pub inside : k ≤ length rows
  pub count : length moves ≡ k
  pub exchanged : IsExchanged k fanins after rows left
  pub moved : WereAt labels moves now
