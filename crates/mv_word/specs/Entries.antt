-- What an entry of a table says of a column, as a set of values: after the description of BLIF-MV
-- by Kukimoto.
--
-- `values` are the names of the values of the column's net in declared order, and value v is the
-- one at place v.
use Rattle.std.specs.Prelude.{ℕ, ◌+◌, ◌-◌, Bool, not, ◌&&◌, ◌==◌, nat_le, List, [], ◌∷◌, ◌++◌, length, take}
use Rattle.std.specs.Prelude.{codes, Option, Some, None, is_some, Result, Ok, Err, suc, zero, if◌then◌else◌}
use Rattle.std.specs.List.{slice_split}
use Rattle.mv_base.specs.Names.{same_word, place_of}
use Rattle.mv_base.specs.Set.{empty, one, full, join, minus}
use Rattle.mv_lex.specs.Words.{is_bang, opens, front, behind}
use Rattle.mv_word.specs.declared.fault.EntryFault.{EntryFault}
use Rattle.mv_word.specs.declared.fault.EntryFault.TheVariants.{Unknown, Equal}

-- the values from the first place to the last; none where these run backwards
unfoldable pub span : ℕ → ℕ → Option ℕ
span first last = if nat_le first last then Some (minus (full (last + 1)) (full first)) else None

-- the values from one value's place to another's, if there are both
abbrev pub span_of : Option ℕ → Option ℕ → Option ℕ
span_of None last = None
span_of (Some first) None = None
span_of (Some first) (Some last) = span first last

-- a byte between these parts words: it is a hyphen, and both are values' names
abbrev pub parts_range : List (List ℕ) → List ℕ → ℕ → List ℕ → Bool
parts_range values before b bytes = (b == 45) && is_some (place_of before values)
    && is_some (place_of bytes values)

-- the values of a range that is cut behind these first bytes
abbrev pub range_from : List (List ℕ) → List ℕ → List ℕ → Option ℕ
range_from values before [] = None
range_from values before (b ∷ bytes) =
    if parts_range values before b bytes then span_of (place_of before values)
    (place_of bytes values)
    else range_from values (before ++ b ∷ []) bytes

-- the values of a range, which is cut at its first hyphen that leaves a value's name on both sides
unfoldable pub range_of : List (List ℕ) → List ℕ → Option ℕ
range_of values word = range_from values [] word

-- the set of a value, if there is one, or else another set
abbrev pub one_or : Option ℕ → Option ℕ → Option ℕ
one_or None other = other
one_or (Some v) other = Some (one v)

-- the values of an item in brackets, which is a value's name, or else a range
unfoldable pub item_of : List (List ℕ) → List ℕ → Option ℕ
item_of values word = one_or (place_of word values) (range_of values word)

-- what the rest says with an item's values, or the fault that the item says none
abbrev pub with_item : List ℕ → Option ℕ → (ℕ → Result ℕ EntryFault) → Result ℕ EntryFault
with_item item None rest = Err (Unknown item)
with_item item (Some more) rest = rest more

-- the values of a set and of all items, or the first item that says none
abbrev pub items_of : List (List ℕ) → ℕ → List (List ℕ) → Result ℕ EntryFault
items_of values set [] = Ok set
items_of values set (item ∷ items) =
    with_item item (item_of values item) (λ more. items_of values (join set more) items)

-- the values of what stands in brackets: items between commas
unfoldable pub list_of : List (List ℕ) → List ℕ → Result ℕ EntryFault
list_of values bytes = items_of values empty (slice_split (λ b. b == 44) bytes)

-- the set of a value, or the fault that the whole word names none
abbrev pub named_or : List ℕ → Option ℕ → Result ℕ EntryFault
named_or whole None = Err (Unknown whole)
named_or whole (Some v) = Ok (one v)

-- what a word outside brackets says: `-` every value, and a value's name itself
unfoldable pub plain_of : List (List ℕ) → List ℕ → List ℕ → Result ℕ EntryFault
plain_of values whole word = if same_word word (codes "-") then Ok (full (length values))
    else named_or whole (place_of word values)

-- what a word without the `!` in front says: a list in brackets, `=` and a name, which says no set,
-- or a plain one. Of a plain one that isn't known the whole word is told
abbrev pub base_of : List (List ℕ) → List ℕ → List ℕ → Result ℕ EntryFault
base_of values whole [] = Err (Unknown whole)
base_of values whole (b ∷ bytes) =
    if opens b then list_of values (take (length bytes - 1) bytes)
    else if b == 61 then Err (Equal bytes)
    else plain_of values whole (b ∷ bytes)

-- the values that a set lacks
abbrev pub opposite : ℕ → Result ℕ EntryFault → Result ℕ EntryFault
opposite count (Err fault) = Err fault
opposite count (Ok set) = Ok (minus (full count) set)

-- the same, so many times over
abbrev pub opposites : ℕ → ℕ → Result ℕ EntryFault → Result ℕ EntryFault
opposites count zero said = said
opposites count (suc n) said = opposite count (opposites count n said)

-- the set that a word says: each `!` in front turns it to the values that it lacks
unfoldable pub word_set : List (List ℕ) → List ℕ → Result ℕ EntryFault
word_set values word =
    opposites (length values) (length (front is_bang word))
    (base_of values word (behind is_bang word))

-- ---- what private functions alone cite

-- a byte that isn't the comma between two items
abbrev pub is_inside : ℕ → Bool
is_inside b = not (b == 44)
