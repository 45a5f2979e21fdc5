-- The rows of a table: `PLANE OUT`, or `OUT` where it has no inputs.
use Rattle.std.specs.Prelude.{ℕ, ◌+◌, ◌-◌, Bool, not, ◌||◌, ◌==◌, nat_le, List, [], ◌∷◌, ◌++◌, length, codes, Option, Some, None, unwrap_or, if◌then◌else◌}
use Rattle.std.specs.List.{list_all}
use Rattle.mv_base.specs.Names.{same_word}
use Rattle.mv_base.specs.declared.limits.TheConstants.{MAX_TABLE_LINES}
use Rattle.mv_fault.specs.declared.fault.Which.TheVariants.{TableLines}
use Rattle.mv_fault.specs.declared.fault.ParseFault.TheVariants.{Columns, UnknownValue, Limit}
use Rattle.mv_fault.specs.Tells.{when}
use Rattle.mv_blif_line.specs.declared.fault.BlifFault.{BlifFault}
use Rattle.mv_blif_line.specs.declared.fault.BlifFault.TheVariants.{Line, MixedRows}
use Rattle.mv_blif_line.specs.declared.row.OpenTable.{OpenTable}

-- the words of a row: a plane, unless the table has no inputs, and the output
abbrev pub words_wanted : ℕ → ℕ
words_wanted ins = if ins == 0 then 1 else 2

-- what a byte of a plane may be: `0`, `1` or `-`
abbrev pub is_plane_byte : ℕ → Bool
is_plane_byte b = (b == 48) || (b == 49) || (b == 45)

-- the output is 1
abbrev pub is_one : List ℕ → Bool
is_one w = same_word w (codes "1")

-- what an output may be
abbrev pub is_output : List ℕ → Bool
is_output w = same_word w (codes "0") || is_one w

-- the plane of a row, which has none where its output stands alone
abbrev pub plane_of : List (List ℕ) → List ℕ
plane_of [] = []
plane_of (w ∷ []) = []
plane_of (p ∷ w ∷ words) = p

-- the output of a row
abbrev pub output_of : List (List ℕ) → List ℕ
output_of [] = []
output_of (w ∷ []) = w
output_of (p ∷ w ∷ words) = w

-- a plane has a byte for each input
abbrev pub plane_faults : ℕ → ℕ → List ℕ → List BlifFault
plane_faults n ins p =
    when (not (length p == ins)) (Line (Columns n ins (length p)))
    ++ when (not (list_all is_plane_byte p)) (Line (UnknownValue n p))

-- the value of an output
abbrev pub value_of : List ℕ → ℕ
value_of w = if is_one w then 1 else 0

-- the value is that of the first row, if there is one
abbrev pub mixed_faults : ℕ → Option ℕ → ℕ → List BlifFault
mixed_faults n None value = []
mixed_faults n (Some first) value = when (not (value == first)) (MixedRows n)

-- the output of a row behind rows of which the first has this value, if there is one
unfoldable pub output_faults : ℕ → Option ℕ → List ℕ → List BlifFault
output_faults n first w = when (not (is_output w)) (Line (UnknownValue n w))
    ++ mixed_faults n first (value_of w)

-- one more row than a table may have, and then too few or too many words
abbrev pub count_faults : ℕ → OpenTable → List (List ℕ) → List BlifFault
count_faults n t words =
    when (nat_le MAX_TABLE_LINES t.rows) (Line (Limit n TableLines (MAX_TABLE_LINES + 1)))
    ++ when (not (length words == words_wanted t.ins))
    (Line (Columns n (words_wanted t.ins) (length words)))

-- a row of the open table, from left to right
unfoldable pub row_faults : ℕ → OpenTable → List (List ℕ) → List BlifFault
row_faults n t words =
    count_faults n t words ++ plane_faults n t.ins (plane_of words)
    ++ output_faults n t.first (output_of words)

-- ---- the table that is open

-- a table that a first line with these words behind its command begins
abbrev pub new_table : List (List ℕ) → OpenTable
new_table words = record { ins = length words - 1; rows = 0; first = None }

-- a table behind one more row
abbrev pub row_seen : List (List ℕ) → OpenTable → OpenTable
row_seen words t =
    record {
      ins = t.ins;
      rows = t.rows + 1;
      first = Some (unwrap_or t.first (value_of (output_of words)));
    }
