-- What the words of a row and of a default say of their columns.
use Rattle.std.specs.Prelude.{◌≡◌, ℕ, ◌==◌, List, [], ◌∷◌, ◌++◌, length, map, drop, Option, Some, None, Result, Ok, Err, if◌then◌else◌}
use Rattle.mv_base.specs.Names.{begins_with, place_of}
use Rattle.mv_base.specs.Set.{empty}
use Rattle.mv_word.specs.declared.fault.EntryFault.{EntryFault}
use Rattle.mv_word.specs.declared.fault.EntryFault.TheVariants.{Unknown, Equal, Memory}
use Rattle.mv_word.specs.Entries.{word_set}
use Rattle.mv_design.specs.declared.table.Entry.{Entry}
use Rattle.mv_design.specs.declared.table.Entry.TheVariants.{Set, Same}
use Rattle.mv_design.specs.declared.design.Decl.{Decl}
use Rattle.mv_design.specs.Values.{values_of, declared_of}
use Rattle.mv_fault.specs.declared.fault.ParseFault.{ParseFault}
use Rattle.mv_table.specs.declared.entries.Columns.{Columns}
use Rattle.mv_fault.specs.declared.fault.ParseFault.TheVariants.{UnknownValue, BadEqual}

-- an input entry is a set of the values of its column's net
unfoldable pub in_said : List Decl → List ℕ → List ℕ → Result ℕ EntryFault
in_said ds net word = word_set (values_of ds net) word

-- an output entry is one of these, or `=x`, where x is the name of an input column of the table
-- with as many values
abbrev pub same_at : List Decl → List (List ℕ) → List ℕ → Option ℕ → Result Entry EntryFault
same_at ds values name None = Err (Equal name)
same_at ds values name (Some place) =
    if length (values_of ds name) == length values then Ok (Same place) else Err (Equal name)

-- a set of values as an output entry
abbrev pub set_entry : Result ℕ EntryFault → Result Entry EntryFault
set_entry (Ok set) = Ok (Set set)
set_entry (Err fault) = Err fault

-- what the word of an output entry says of these values: `=` begins the name of a column
unfoldable pub out_word : List Decl → List (List ℕ) → List (List ℕ) → List ℕ
    → Result Entry EntryFault
out_word ds ins values word =
    if begins_with 61 word then same_at ds values (drop 1 word) (place_of (drop 1 word) ins)
    else set_entry (word_set values word)

-- what an output entry says of the values of its column's net
unfoldable pub out_said : List Decl → List (List ℕ) → List ℕ → List ℕ → Result Entry EntryFault
out_said ds ins net word = out_word ds ins (values_of ds net) word

-- the fault of an entry
abbrev pub entry_faults : {T : Type 0} → ℕ → Result T EntryFault → List ParseFault
entry_faults n (Ok said) = []
entry_faults n (Err (Unknown word)) = UnknownValue n word ∷ []
entry_faults n (Err (Equal name)) = BadEqual n name ∷ []
entry_faults n (Err Memory) = []

-- what an entry says, or something else where it has a fault
abbrev pub said_or : {T : Type 0} → T → Result T EntryFault → T
said_or other (Ok said) = said
said_or other (Err fault) = other

-- the faults of input entries
abbrev pub ins_faults : ℕ → List Decl → List (List ℕ) → List (List ℕ) → List ParseFault
ins_faults n ds [] words = []
ins_faults n ds (net ∷ nets) [] = []
ins_faults n ds (net ∷ nets) (w ∷ words) = entry_faults n (in_said ds net w)
    ++ ins_faults n ds nets words

-- the sets that input entries say
abbrev pub ins_said : List Decl → List (List ℕ) → List (List ℕ) → List ℕ
ins_said ds [] words = []
ins_said ds (net ∷ nets) [] = []
ins_said ds (net ∷ nets) (w ∷ words) = said_or empty (in_said ds net w) ∷ ins_said ds nets words

-- the faults of output entries
abbrev pub outs_faults : ℕ → List Decl → List (List ℕ) → List (List ℕ) → List (List ℕ)
    → List ParseFault
outs_faults n ds ins [] words = []
outs_faults n ds ins (net ∷ nets) [] = []
outs_faults n ds ins (net ∷ nets) (w ∷ words) = entry_faults n (out_said ds ins net w)
    ++ outs_faults n ds ins nets words

-- the entries that output entries say
abbrev pub outs_said : List Decl → List (List ℕ) → List (List ℕ) → List (List ℕ) → List Entry
outs_said ds ins [] words = []
outs_said ds ins (net ∷ nets) [] = []
outs_said ds ins (net ∷ nets) (w ∷ words) = said_or (Set empty) (out_said ds ins net w)
    ∷ outs_said ds ins nets words

-- ---- what private functions alone cite

-- where the nets of columns are declared
abbrev pub places_of : List Decl → List (List ℕ) → List (Option ℕ)
places_of ds nets = map (λ net. place_of net (declared_of ds)) nets

-- the columns have the places of their nets
pub record AreLookedUp (ds : List Decl) (columns : Columns) : Type 0 where
  pub inputs : columns.in_places.items ≡ places_of ds columns.ins.now
  pub outputs : columns.out_places.items ≡ places_of ds columns.outs.now
