-- Sets of values as a certificate writes them: a value, or values in brackets, parted by commas.
use Rattle.std.specs.Prelude.{ℕ, ◌-◌, Bool, ◌&&◌, ◌==◌, nat_lt, nat_le, List, [], ◌∷◌, length, slice_range, Option, Some, None, if◌then◌else◌}
use Rattle.std.specs.Char.{is_ascii_digit}
use Rattle.std.specs.List.{list_all, slice_split}
use Rattle.std.specs.Str.Parse.{digits_value}
use Rattle.mv_base.specs.Names.{begins_with, ends_with}
use Rattle.mv_base.specs.Set.{empty, one, join}
use Rattle.mv_base.specs.declared.limits.TheConstants.{MAX_VALUES}

-- a number has one digit or more, and at most five
abbrev pub is_number : List ℕ → Bool
is_number w = nat_lt 0 (length w) && nat_le (length w) 5 && list_all is_ascii_digit w

-- the number below an end that a word says
unfoldable pub number_below : ℕ → List ℕ → Option ℕ
number_below end w = if is_number w && nat_lt (digits_value 10 w) end then Some (digits_value 10 w)
    else None

-- the value that a word says: a number below the most values that a net may have
unfoldable pub value_said : List ℕ → Option ℕ
value_said w = number_below MAX_VALUES w

-- the number that a word says where no set stands: one of 16 bits
unfoldable pub number_said : List ℕ → Option ℕ
number_said w = number_below 65536 w

-- the set of a value and of the others, if each is one
abbrev pub with_value : Option ℕ → Option ℕ → Option ℕ
with_value None others = None
with_value (Some v) None = None
with_value (Some v) (Some set) = Some (join (one v) set)

-- the set of the values that these words say, if each says one
abbrev pub values_said : List (List ℕ) → Option ℕ
values_said [] = Some empty
values_said (w ∷ ws) = with_value (value_said w) (values_said ws)

-- a comma, which parts values in brackets
abbrev pub is_comma : ℕ → Bool
is_comma b = b == 44

-- the word stands in brackets
abbrev pub is_in_brackets : List ℕ → Bool
is_in_brackets w = begins_with 40 w && ends_with 41 w

-- what stands between the first byte and the last
abbrev pub inside : List ℕ → List ℕ
inside w = slice_range w 1 (length w - 1)

-- the words of the values of a set
abbrev pub value_words : List ℕ → List (List ℕ)
value_words w = if is_in_brackets w then slice_split is_comma (inside w) else w ∷ []

-- the set that a word says
unfoldable pub set_said : List ℕ → Option ℕ
set_said w = values_said (value_words w)
