-- What the rows of a table that is written as BLIF allow, as a file's table with the default that
-- they have.
use Rattle.std.specs.Prelude.{ℕ, ◌-◌, Bool, nat_lt, Some, List, [], ◌∷◌, map}
use Rattle.mv_base.specs.Set.{one}
use Rattle.mv_design.specs.declared.table.Entry.{Entry}
use Rattle.mv_design.specs.declared.table.Entry.TheVariants.{Set}
use Rattle.mv_design.specs.Tables.{table_allows}
use Rattle.mv_blif_line.specs.Rows.{output_of, value_of}
use Rattle.mv_blif_line.specs.Tables.{row_of}

-- the value where no row matches, as rows of these words say it
abbrev pub default_of : List (List (List ℕ)) → ℕ
default_of [] = 0
default_of (ws ∷ rows) = 1 - value_of (output_of ws)

-- the entries of one output with this value
abbrev pub one_entry : ℕ → List Entry
one_entry v = Set (one v) ∷ []

-- the rows of these words allow a value where their inputs have these
abbrev pub rows_say : List (List (List ℕ)) → List ℕ → ℕ → Bool
rows_say rows values v =
    table_allows (map row_of rows) (Some (one_entry (default_of rows))) values (v ∷ [])

-- the value of a net is one of two
abbrev pub is_low : (ℕ → ℕ) → ℕ → Bool
is_low at m = nat_lt (at m) 2
