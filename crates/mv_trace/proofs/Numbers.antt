-- The numbers below a count as names of values, and what a word says that is read as a number.
use Rattle.std.proofs.Common.{◌≡◌, ◌∙◌, ℕ, ◌^◌, ◌<◌, ◌≤◌, true, Option, Some, None, List, [], length, map, decimal, refl, sym, ap, arith}
use Rattle.std.specs.Prelude.{slice_get, if◌then◌else◌}
use Rattle.std.specs.Char.{is_ascii_digit}
use Rattle.std.specs.List.{list_all, range_with_len}
use Rattle.std.specs.Str.Parse.{digits_value}
use Rattle.std.proofs.lemmas.Fmt.{digits_decimal, digits_value-decimal, length-decimal-le, decimal_injective}
use Rattle.std.proofs.lemmas.List.FromFn.{get_or-map-range_with_len, length-map-range_with_len}
use Rattle.std.proofs.lemmas.Option.{slice_get_within, slice_get-get_or, get_or_from_slice_get}
use Rattle.mv_base.specs.Names.{place_of}
use Rattle.mv_base.proofs.NameLemmas.{IsPlace-from_place, IsPlace-from_among, among-at}
use Rattle.mv_lex.proofs.Digits.{numerals}

-- the numbers below a count, as a file spells them
abbrev numbers : ℕ → List (List ℕ)
numbers count = map decimal (range_with_len 0 count)

-- the word is a number below the count
pub record IsNumber (count : ℕ) (word : List ℕ) (k : ℕ) : Type 0 where
  pub below : k < count
  pub spelled : word ≡ decimal k

number_at : (count k : ℕ) (w : List ℕ) → slice_get (numbers count) k ≡ Some w → IsNumber count w k
number_at count k w e =
    let within : k < length (numbers count) = slice_get_within (numbers count) k w e in
    let size : length (numbers count) ≡ count = length-map-range_with_len decimal 0 count in
    let low : k < count = omega arith in
    record {
      below = low;
      spelled = sym (get_or_from_slice_get (numbers count) k w [] e) ∙ get_or-map-range_with_len decimal 0 count k k [] low (omega arith);
    }

-- a number has its place among them
pub place-from_number : (count k : ℕ) (word : List ℕ) → count < 2 ^ 16 → IsNumber count word k → Some k ≡ place_of word (numbers count)
place-from_number count k word few is =
    let low = is.below in
    let size : length (numbers count) ≡ count = length-map-range_with_len decimal 0 count in
    let there : slice_get (numbers count) k ≡ Some word = slice_get-get_or (numbers count) k [] (omega arith) ∙ ap Some (get_or-map-range_with_len decimal 0 count k k [] low (omega arith) ∙ sym is.spelled) in
    let place = IsPlace-from_among word (numbers count) (among-at (numbers count) k word there) in
    let other = number_at count place.0 word place.1.found in
    let below = other.below in
    let same : k ≡ place.0 = decimal_injective k place.0 (omega arith) (omega arith) (sym is.spelled ∙ other.spelled) in
    ap Some same ∙ sym place.1.place

-- what is no number has none
pub no_place : (count : ℕ) (word : List ℕ) → ((k : ℕ) → IsNumber count word k → ⊥) → None ≡ place_of word (numbers count)
no_place count word none = by_place (place_of word (numbers count)) refl
  where
    by_place : (o : Option ℕ) → place_of word (numbers count) ≡ o → None ≡ o
    by_place None e = refl
    by_place (Some k) e = absurd (none k (number_at count k word (IsPlace-from_place word (numbers count) k e).found))

-- a number is short
pub number_short : (count k : ℕ) (word : List ℕ) → count < 2 ^ 16 → IsNumber count word k → length word ≤ 5
number_short count k word few is =
    let low = is.below in
    let short : length (decimal k) ≤ 5 = length-decimal-le 5 k (omega arith) (omega arith) (omega arith) in
    let same : length word ≡ length (decimal k) = ap length is.spelled in
    omega arith

-- a number is read as what it says
pub number_read : (count k : ℕ) (word : List ℕ) (said : Option ℕ) → count < 2 ^ 16 → IsNumber count word k → said ≡ (if list_all is_ascii_digit word then Some (digits_value 10 word) else None) → said ≡ Some k
number_read count k word said few is e =
    let low = is.below in
    let digits : list_all is_ascii_digit word ≡ true = ap (list_all is_ascii_digit) is.spelled ∙ digits_decimal numerals k (omega arith) in
    let value : digits_value 10 word ≡ k = ap (digits_value 10) is.spelled ∙ digits_value-decimal numerals k (omega arith) in
    let read : said ≡ Some (digits_value 10 word) = rw digits at e in
    read ∙ ap Some value
