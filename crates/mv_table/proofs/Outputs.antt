-- The outputs of a table's first line: a single one has the faults of its column alone.
use Rattle.std.proofs.Common.{◌≡◌, ℕ, List, [], ◌∷◌, ◌++◌}
use Rattle.std.proofs.lemmas.List.{append-nil}
use Rattle.mv_table.specs.Columns.{column_faults, names_faults, outputs_faults}

pub single_output : (n at : ℕ) (w : List ℕ) → outputs_faults n at [] (w ∷ []) ≡ names_faults n at (w ∷ [])
single_output n at w = append-nil (column_faults n at w ++ [])
