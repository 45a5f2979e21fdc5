-- The relation of a file's table, after the description of BLIF-MV: rows that match together are
-- each allowed.
use Rattle.std.specs.Prelude.{ℕ, Bool, true, false, ◌&&◌, ◌||◌, not, nat_eq, nat_lt, Option, Some, None, List, [], ◌∷◌, length, slice_index}
use Rattle.std.specs.List.{list_any}
use Rattle.mv_base.specs.Set.{has}
use Rattle.mv_design.specs.declared.table.Entry.{Entry}
use Rattle.mv_design.specs.declared.table.Entry.TheVariants.{Set, Same}
use Rattle.mv_design.specs.declared.table.Row.{Row}

-- a row matches input values where each lies in its column's set
abbrev pub row_matches : List ℕ → List ℕ → Bool
row_matches [] [] = true
row_matches [] (_ ∷ _) = false
row_matches (_ ∷ _) [] = false
row_matches (s ∷ sets) (v ∷ values) = has s v && row_matches sets values

-- an entry holds an output's value where it lies in the entry's set, or has the position of the
-- named column's value
abbrev pub entry_holds : List ℕ → Entry → ℕ → Bool
entry_holds values (Set s) out = has s out
entry_holds values (Same k) out = nat_lt k (length values) && nat_eq (slice_index values k) out

-- each output's value lies in its entry
abbrev pub entries_hold : List ℕ → List Entry → List ℕ → Bool
entries_hold values [] [] = true
entries_hold values [] (_ ∷ _) = false
entries_hold values (_ ∷ _) [] = false
entries_hold values (e ∷ entries) (out ∷ outs) = entry_holds values e out
    && entries_hold values entries outs

-- a row holds a choice of values where it matches the inputs and its entries hold the outputs
abbrev pub row_holds : Row → List ℕ → List ℕ → Bool
row_holds r values outs = row_matches r.ins values && entries_hold values r.outs outs

-- some row matches the input values
abbrev pub some_row_matches : List Row → List ℕ → Bool
some_row_matches rows values = list_any (λ (r : Row). row_matches r.ins values) rows

-- some row holds the choice
abbrev pub some_row_holds : List Row → List ℕ → List ℕ → Bool
some_row_holds rows values outs = list_any (λ (r : Row). row_holds r values outs) rows

-- there is a default, and it holds the outputs
abbrev pub default_holds : Option (List Entry) → List ℕ → List ℕ → Bool
default_holds None values outs = false
default_holds (Some entries) values outs = entries_hold values entries outs

-- a table allows a choice where some row holds it, or no row matches the inputs and the default
-- holds the outputs
unfoldable pub table_allows : List Row → Option (List Entry) → List ℕ → List ℕ → Bool
table_allows rows default values outs = some_row_holds rows values outs
    || (not (some_row_matches rows values) && default_holds default values outs)
