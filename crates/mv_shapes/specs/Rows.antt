-- What a table's rows tell of it whatever the names and the numbers of its columns are.
use Rattle.std.specs.Prelude.{◌≡◌, ℕ, Bool, true, ◌&&◌, nat_eq, List, [], ◌∷◌}
use Rattle.std.specs.List.{list_any}
use Rattle.mv_base.specs.Set.{full}
use Rattle.mv_design.specs.declared.table.Row.{Row}
use Rattle.mv_rows.specs.Flat.{only_entry, says_nothing}
use Rattle.mv_shapes.specs.declared.full.FullRows.{FullRows}

-- some row says no value of its output
abbrev pub some_silent : List Row → Bool
some_silent rows = list_any (λ (r : Row). says_nothing (only_entry r.outs)) rows

-- sets have all values of columns with so many
abbrev pub are_full : List ℕ → List ℕ → Bool
are_full [] sets = true
are_full (n ∷ counts) [] = true
are_full (n ∷ counts) (s ∷ sets) = nat_eq s (full n) && are_full counts sets

-- some row has all values of columns with so many
abbrev pub some_full : List ℕ → List Row → Bool
some_full counts rows = list_any (λ (r : Row). are_full counts r.ins) rows

-- the answer that is kept for these rows
pub record IsFullOf (rows : List Row) (kept : FullRows) : Type 0 where
  pub answers : kept.some ≡ some_full kept.counts.items rows
