-- Rows that a graph has behind a change.
use Rattle.std.specs.Prelude.{ℕ, ◌+◌, List, [], ◌∷◌, ◌++◌, map, replicate, nat_eq, if◌then◌else◌}
use Rattle.mv_base.specs.declared.number.NetId.{NetId}
use Rattle.mv_dag.specs.declared.new_rows.NewRow.{NewRow}

-- the nets that get rows
abbrev pub nets_of : List NewRow → List NetId
nets_of rows = map (λ (r : NewRow). r.net) rows

-- the row that a net is given, and else the one that it has
abbrev pub row_given : List NewRow → ℕ → List NetId → List NetId
row_given [] n old = old
row_given (r ∷ rs) n old = if nat_eq r.net.0 n then r.fanins else row_given rs n old

-- the rows behind the change, of which the first has the number n
abbrev pub rows_from : List NewRow → ℕ → List (List NetId) → List (List NetId)
rows_from rs n [] = []
rows_from rs n (row ∷ rows) = row_given rs n row ∷ rows_from rs (n + 1) rows

-- the rows behind the change: so many numbers come, without fanins at first, and then nets are
-- given rows
abbrev pub changed_rows : List NewRow → ℕ → List (List NetId) → List (List NetId)
changed_rows rs added rows = rows_from rs 0 (rows ++ replicate added [])
