-- The number that a few digits say.
use Rattle.std.proofs.Common.{◌≡◌, ◌∙◌, ℕ, ◌+◌, ◌*◌, ◌-◌, ◌<◌, ◌≤◌, ◌^◌, true, List, length, take, get_or, arith, rules}
use Rattle.std.specs.Char.{is_ascii_digit}
use Rattle.std.specs.Int.{IsInRange}
use Rattle.std.specs.List.{list_all}
use Rattle.std.specs.Str.Parse.{digits_value}
use Rattle.std.proofs.lemmas.Bool.{and_from}
use Rattle.std.proofs.lemmas.Int.Digits.{digits_value_more}
use Rattle.std.proofs.lemmas.List.{length-take-le}
use Rattle.std.proofs.lemmas.List.Folds.{list_all_more}
use Rattle.std.proofs.lemmas.Str.{digit_value_digit}
use Rattle.std.proofs.lemmas.Str.Parse.{IsNumeralModel, numerals_by_value, digits_value_short}

pub numerals : IsNumeralModel (λ ds. list_all is_ascii_digit ds ≡ true) (digits_value 10)
numerals = numerals_by_value _ (search rules)

-- the first bytes, of which there are so many, are digits, and this is the number that they say
pub record IsRead (bytes : List ℕ) (n number : ℕ) : Type 0 where
  pub digits : list_all is_ascii_digit (take n bytes) ≡ true
  pub number_is : number ≡ digits_value 10 (take n bytes)

-- few digits say no large number
pub few : (bytes : List ℕ) (n number : ℕ) → IsRead bytes n number → n ≤ length bytes → length bytes ≤ 20 → number < 10 ^ 20
few bytes n number r low h =
    let short = digits_value_short numerals (take n bytes) 20 r.digits (omega (arith, length-take-le n bytes low)) in
    omega (arith, short, r.number_is)

-- one digit more
pub next_digit : (bytes : List ℕ) (n number digit more : ℕ) → IsRead bytes n number → n < length bytes → is_ascii_digit (get_or bytes n 0) ≡ true → IsInRange 48 57 (get_or bytes n 0) → digit ≡ get_or bytes n 0 - 48 → more ≡ number * 10 + digit → IsRead bytes (n + 1) more
next_digit bytes n number digit more r low y range is e =
    let b = get_or bytes n 0 in
    let value = digit_value_digit b range in
    let longer = digits_value_more 10 bytes n low in
    record {
      digits = list_all_more is_ascii_digit bytes n 0 low ∙ and_from _ _ r.digits y;
      number_is = omega (arith, value, longer, r.number_is, is, e);
    }
