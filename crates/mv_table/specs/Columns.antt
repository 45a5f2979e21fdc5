-- The first line of a table, `.table COLUMNS`, and of a reset table, `.reset COLUMNS`: its columns
-- and their faults.
use Rattle.std.specs.Prelude.{ℕ, ◌+◌, ◌-◌, Bool, not, ◌==◌, nat_lt, nat_le, List, [], ◌∷◌, ◌++◌, length, take, drop, codes, if◌then◌else◌}
use Rattle.std.specs.List.{position_or_len}
use Rattle.mv_base.specs.Names.{same_word, among, is_net_name}
use Rattle.mv_base.specs.declared.limits.TheConstants.{MAX_COLUMNS}
use Rattle.mv_fault.specs.declared.fault.Which.TheVariants.{Columns}
use Rattle.mv_fault.specs.declared.fault.ParseFault.{ParseFault}
use Rattle.mv_fault.specs.declared.fault.ParseFault.TheVariants.{Missing, Extra, Repeated, Limit, BadName}
use Rattle.mv_fault.specs.Tells.{when}

-- the word between the inputs and the outputs
abbrev pub is_arrow : List ℕ → Bool
is_arrow w = same_word w (codes "->")

-- the place of the first `->`, or the length where there is none
abbrev pub arrow_at : List (List ℕ) → ℕ
arrow_at words = position_or_len is_arrow words

-- some word is `->`
abbrev pub has_arrow : List (List ℕ) → Bool
has_arrow words = nat_lt (arrow_at words) (length words)

-- how many input columns there are: all names before the first `->`, or all but the last where
-- there is none
abbrev pub ins_count : List (List ℕ) → ℕ
ins_count words = if has_arrow words then arrow_at words else length words - 1

-- the input columns
unfoldable pub ins_of : List (List ℕ) → List (List ℕ)
ins_of words = take (ins_count words) words

-- the output columns: the names behind the first `->`, or the last
unfoldable pub outs_of : List (List ℕ) → List (List ℕ)
outs_of words = drop (if has_arrow words then arrow_at words + 1 else length words - 1) words

-- the faults of a column of this name, behind so many columns
abbrev pub column_faults : ℕ → ℕ → List ℕ → List ParseFault
column_faults n at w = when (nat_le MAX_COLUMNS at) (Limit n Columns (MAX_COLUMNS + 1))
    ++ when (not (is_net_name w)) (BadName n w)

-- the faults of columns behind so many others, where a name may stand twice, as among inputs
abbrev pub names_faults : ℕ → ℕ → List (List ℕ) → List ParseFault
names_faults n at [] = []
names_faults n at (w ∷ ws) = column_faults n at w ++ names_faults n (at + 1) ws

-- the faults of the outputs of a table, behind so many columns, of which these are outputs: no
-- output stands twice
abbrev pub outputs_faults : ℕ → ℕ → List (List ℕ) → List (List ℕ) → List ParseFault
outputs_faults n at earlier [] = []
outputs_faults n at earlier (w ∷ ws) =
    column_faults n at w ++ when (among w earlier) (Repeated n w)
    ++ outputs_faults n (at + 1) (earlier ++ w ∷ []) ws

-- the faults of the words behind the command `word`: those of each column in turn, and an output
-- that is lacking
unfoldable pub columns_faults : ℕ → List ℕ → List (List ℕ) → List ParseFault
columns_faults n word words =
    names_faults n 0 (ins_of words) ++ outputs_faults n (length (ins_of words)) [] (outs_of words)
    ++ when (length (outs_of words) == 0) (Missing n word)

-- the faults of the outputs of a reset table, which has one, behind so many columns
abbrev pub output_faults : ℕ → List ℕ → ℕ → List (List ℕ) → List ParseFault
output_faults n word at [] = Missing n word ∷ []
output_faults n word at (w ∷ ws) = names_faults n at (w ∷ [])
    ++ when (nat_lt 0 (length ws)) (Extra n word)

-- the faults of the words behind the command `word` of a reset table
unfoldable pub reset_faults : ℕ → List ℕ → List (List ℕ) → List ParseFault
reset_faults n word words = names_faults n 0 (ins_of words)
    ++ output_faults n word (length (ins_of words)) (outs_of words)
