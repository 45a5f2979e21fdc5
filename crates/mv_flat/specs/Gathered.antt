-- How the nets of a model are gathered by number, table by table, and what a look at the rows tells
-- of a table's mark. For private functions.
use Rattle.std.specs.Prelude.{◌≡◌, ℕ, Bool, true, not, ◌&&◌, Option, Some, None, List, [], ◌∷◌, length, map, unwrap_or, if◌then◌else◌}
use Rattle.mv_design.specs.declared.design.Decl.{Decl}
use Rattle.mv_design.specs.declared.table.Entry.{Entry}
use Rattle.mv_design.specs.declared.table.Row.{Row}
use Rattle.mv_design.specs.declared.table.FileTable.{FileTable}
use Rattle.mv_base.specs.Names.{place_of}
use Rattle.mv_base.specs.declared.number.NetId.{NetId}
use Rattle.mv_design.specs.Values.{count_of}
use Rattle.mv_rows.specs.Flat.{only_entry}
use Rattle.mv_joint.specs.Plain.{is_same}
use Rattle.mv_shapes.specs.Rows.{some_silent}
use Rattle.mv_acyclic.specs.Driving.{with_names}
use Rattle.mv_flat.specs.Numbers.{mark_at}
use Rattle.mv_flat.specs.Places.{made_places}

-- names with those of the nets of tables
abbrev pub with_places : List Decl → List (List ℕ) → List FileTable → List (List ℕ)
with_places ds names [] = names
with_places ds names (t ∷ ts) =
    with_places ds (with_names (with_names names (made_places ds t)) t.outputs) ts

-- a default can stand beside rows: it is a set, and each row says a value
abbrev pub can_stand : List Row → Entry → Bool
can_stand rows default = not (is_same default) && not (some_silent rows)

-- a default can stand beside rows, if there is one
abbrev pub none_or_stands : List Row → Option (List Entry) → Bool
none_or_stands rows None = true
none_or_stands rows (Some entries) = can_stand rows (only_entry entries)

-- a table gets no mark, as a look at it tells: it has no default, or one that can stand beside its
-- rows
abbrev pub is_plain : FileTable → Bool
is_plain t = none_or_stands t.rows t.default

-- how many values each of these nets has
abbrev pub counts_of : List Decl → List (List ℕ) → List ℕ
counts_of ds names = map (count_of ds) names

-- the number of the net with this name, or one past all others
abbrev pub number_or_past : List (List ℕ) → List ℕ → NetId
number_or_past names name = record { 0 = unwrap_or (place_of name names) (length names) }

-- the number of a table's mark; where a look at the table tells that it gets none, the number past
-- all others
abbrev pub IsMarkNumber : List (List ℕ) → FileTable → NetId → Type 0
IsMarkNumber names t mark = mark
    ≡ (if is_plain t then record { 0 = length names } else mark_at names t)
