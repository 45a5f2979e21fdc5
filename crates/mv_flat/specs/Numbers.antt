-- The columns of a model's tables by their numbers. The number of a net is its place among the
-- names by number.
use Rattle.std.specs.Prelude.{ℕ, Bool, List, [], ◌∷◌, length, map, decimal, unwrap_or, nat_eq, if◌then◌else◌}
use Rattle.std.specs.List.{range_with_len}
use Rattle.std.specs.Cmp.Lexicographic.{pointwise}
use Rattle.mv_base.specs.Names.{place_of}
use Rattle.mv_base.specs.declared.number.NetId.{NetId}
use Rattle.mv_design.specs.declared.design.Decl.{Decl}
use Rattle.mv_design.specs.declared.table.FileTable.{FileTable}
use Rattle.mv_rows.specs.declared.column.Column.{Column}
use Rattle.mv_design.specs.Nets.{output_of}
use Rattle.mv_design.specs.Values.{count_of}
use Rattle.mv_acyclic.specs.Numbers.{net_in}
-- the name of a made net: `_m` and a number
pub use Rattle.mv_net.specs.Fresh.{made_name}

-- a column's net, and how many values it has
abbrev pub column_of : List Decl → List (List ℕ) → List ℕ → Column
column_of ds names net = record { net = net_in names net; count = count_of ds net }

-- the input columns of a table
abbrev pub columns_at : List Decl → List (List ℕ) → FileTable → List Column
columns_at ds names t = map (column_of ds names) t.inputs

-- the name by which the mark of the table with this first output stands among the nets by number: a
-- space and the output's name, as no net is named
abbrev pub mark_name : List ℕ → List ℕ
mark_name net = 32 ∷ net

-- the number of the table's mark, or a number past all others where it has none
abbrev pub mark_at : List (List ℕ) → FileTable → NetId
mark_at names t = record { 0 = unwrap_or (place_of (mark_name (output_of t)) names) (length names) }

-- the name by which the choice net of the table with this first output stands among the nets by
-- number: two spaces and the output's name
abbrev pub choice_name : List ℕ → List ℕ
choice_name net = 32 ∷ 32 ∷ net

-- the number of the table's choice net, or a number past all others where it has none
abbrev pub choice_at : List (List ℕ) → FileTable → NetId
choice_at names t =
    record { 0 = unwrap_or (place_of (choice_name (output_of t)) names) (length names) }

-- the names of a net's values are the numbers from 0
abbrev pub are_numbers : List (List ℕ) → Bool
are_numbers values =
    pointwise (pointwise nat_eq) values (map decimal (range_with_len 0 (length values)))

-- the names of a net's values as a network keeps them: none where they are the numbers from 0
abbrev pub kept_names : List (List ℕ) → List (List ℕ)
kept_names values = if are_numbers values then [] else values
