-- What a word of a table says, value by value, in the words of the format.
use Rattle.std.specs.Prelude.{◌≡◌, ◌⊎◌, ℕ, ◌≤◌, Bool, false, ◌&&◌, ◌==◌, nat_le, List, [], ◌∷◌, ◌++◌, Option, Some, None, Ok}
use Rattle.std.specs.List.{slice_split}
use Rattle.mv_base.specs.Names.{place_of}
use Rattle.mv_base.specs.Set.{has}
use Rattle.mv_lex.specs.Words.{closer}
use Rattle.mv_word.specs.Entries.{item_of, word_set}

-- the word says a set, of exactly the values that pass the test
pub record Says (values : List (List ℕ)) (word : List ℕ) (p : ℕ → Bool) : Type 0 where
  pub set : ℕ
  pub said : word_set values word ≡ Ok set
  pub members : (v : ℕ) → has set v ≡ p v

-- a list in brackets, which begins with this bracket
abbrev pub in_brackets : ℕ → List ℕ → List ℕ
in_brackets b inside = b ∷ (inside ++ closer b ∷ [])

-- the items of a list: the pieces between commas
abbrev pub items_in : List ℕ → List (List ℕ)
items_in inside = slice_split (λ b. b == 44) inside

-- there is a set, and it has the value
abbrev pub some_has : Option ℕ → ℕ → Bool
some_has None v = false
some_has (Some s) v = has s v

-- the item has the value
abbrev pub item_has : List (List ℕ) → ℕ → List ℕ → Bool
item_has values v item = some_has (item_of values item) v

-- the item is a value's name, and has this value alone
pub record IsOneValue (values : List (List ℕ)) (item : List ℕ) : Type 0 where
  pub value : ℕ
  pub named : place_of item values ≡ Some value
  pub members : (v : ℕ) → item_has values v item ≡ (v == value)

-- the item is the names of a first and of a last value with a hyphen between, and has the values
-- from the first to the last
pub record IsRange (values : List (List ℕ)) (item : List ℕ) : Type 0 where
  pub before : List ℕ
  pub behind : List ℕ
  pub parts : item ≡ before ++ 45 ∷ behind
  pub first : ℕ
  pub last : ℕ
  pub begins : place_of before values ≡ Some first
  pub ends : place_of behind values ≡ Some last
  pub forwards : first ≤ last
  pub members : (v : ℕ) → item_has values v item ≡ (nat_le first v && nat_le v last)

-- an item in brackets is a value's name or a range
abbrev pub IsItem : List (List ℕ) → List ℕ → Type 0
IsItem values item = IsOneValue values item ⊎ IsRange values item
