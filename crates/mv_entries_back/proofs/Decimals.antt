-- Numbers in decimal: their bytes, how many there are, and the number that they say.
use Rattle.std.proofs.Common.{◌≡◌, ◌⊎◌, inl, inr, ℕ, ◌+◌, ◌%◌, ◌^◌, ◌<◌, ◌≤◌, Bool, true, false, not, ◌&&◌, ◌||◌, ◌==◌, List, [], ◌∷◌, length, decimal, refl, ◌∙◌, arith, lit<}
use Rattle.std.specs.Prelude.{nat_le}
use Rattle.std.specs.List.{list_all}
use Rattle.std.specs.Str.Parse.{digits_value}
use Rattle.std.proofs.lemmas.Bool.{and_parts, and_from, le-leb, leb-true, ne_eqb, not_from_false, not-true, or_from, and_left}
use Rattle.std.proofs.lemmas.List.Folds.{list_all-append}
use Rattle.std.proofs.lemmas.Fmt.{decimal_by_steps_wide, decimal_is_IsNumeral_wide, length-decimal-le_wide}
use Rattle.mv_base.specs.Names.{is_visible, is_bracketed, ends_with}
use Rattle.mv_base.specs.declared.limits.TheConstants.{MAX_VALUES}
use Rattle.mv_base.proofs.Lists.{all-weaker}
use Rattle.mv_lines_back.specs.TextWords.{is_word_byte, is_plain_word}
use Rattle.mv_lines_back.proofs.Ends.{ends_with-skip}
use Rattle.mv_lines_back.proofs.Lists.{is_list_byte}

-- a digit: a byte from `0` to `9`
unfoldable pub is_digit : ℕ → Bool
is_digit b = nat_le 48 b && nat_le b 57

pub record IsDigit (b : ℕ) : Type 0 where
  pub low : 48 ≤ b
  pub high : b ≤ 57

digit : (b : ℕ) → is_digit b ≡ true → IsDigit b
unfolding is_digit
digit b h = let both = and_parts (nat_le 48 b) (nat_le b 57) h in record { low = leb-true 48 b both.0; high = leb-true b 57 both.1 }

decimal_digits : (n : ℕ) → n < 10 ^ 64 → list_all is_digit (decimal n) ≡ true
unfolding is_digit
decimal_digits =
    decimal_by_steps_wide (λ m ds. list_all is_digit ds ≡ true)
    one
    (λ m ds large h. list_all-append is_digit ds ((48 + m % 10) ∷ []) ∙ and_from _ _ h (one (m % 10) (omega arith)))
  where
    one : (d : ℕ) → d < 10 → list_all is_digit ((48 + d) ∷ []) ≡ true
    one d small = and_from _ _ (and_from _ _ (le-leb 48 (48 + d) (omega arith)) (le-leb (48 + d) 57 (omega arith))) refl

-- what each digit passes, all bytes of a number do
pub decimal_passes : (p : ℕ → Bool) → ((b : ℕ) → IsDigit b → p b ≡ true) → (n : ℕ) → n < 10 ^ 64 → list_all p (decimal n) ≡ true
decimal_passes p each n small = all-weaker is_digit p (λ b h. each b (digit b h)) (decimal n) (decimal_digits n small)

pub decimal-back : (n : ℕ) → n < 10 ^ 64 → digits_value 10 (decimal n) ≡ n
decimal-back n small = (decimal_is_IsNumeral_wide n small).1

pub decimal_some : (n : ℕ) → n < 10 ^ 64 → 0 < length (decimal n)
decimal_some n small = (decimal_is_IsNumeral_wide n small).0.0

-- ---- a number is a plain word

ends_other : (e : ℕ) (w : List ℕ) → list_all (λ b. not (b == e)) w ≡ true → ends_with e w ≡ false
ends_other e [] h = refl
ends_other e (b ∷ []) h = not-true (b == e) (and_parts (not (b == e)) true h).0
ends_other e (b ∷ c ∷ w) h =
    ends_with-skip e b c w ∙ ends_other e (c ∷ w) (and_parts (not (b == e)) (list_all (λ b. not (b == e)) (c ∷ w)) h).1

-- no digit is this byte
other : (e b : ℕ) → e < 48 ⊎ 57 < e → IsDigit b → not (b == e) ≡ true
other e b (inl low) d = not_from_false (b == e) (ne_eqb b e (λ s. let l = d.low in omega arith))
other e b (inr high) d = not_from_false (b == e) (ne_eqb b e (λ s. let h = d.high in omega arith))

unbracketed : (w : List ℕ) → list_all is_digit w ≡ true → is_bracketed w ≡ false
unbracketed [] h = refl
unbracketed (b ∷ w) h =
    let d = digit b (and_parts (is_digit b) (list_all is_digit w) h).0 in
    let l = d.low in
    let u = d.high in
    or_from ((b == 40) || (b == 123)) ((b == 33) && is_bracketed w) (or_from (b == 40) (b == 123) (ne_eqb b 40 (λ s. omega arith)) (ne_eqb b 123 (λ s. omega arith))) (and_left (b == 33) (is_bracketed w) (ne_eqb b 33 (λ s. omega arith)))

seen : (b : ℕ) → IsDigit b → is_word_byte b ≡ true
seen b d =
    let l = d.low in
    let u = d.high in
    and_from (is_visible b) (not (b == 35)) (and_from (nat_le 33 b) (nat_le b 126) (le-leb 33 b (omega arith)) (le-leb b 126 (omega arith))) (other 35 b (inl (lit< tt)) d)

-- what each digit passes, all bytes of a word of digits do
digits_pass : (p : ℕ → Bool) → ((b : ℕ) → IsDigit b → p b ≡ true) → (w : List ℕ) → list_all is_digit w ≡ true → list_all p w ≡ true
digits_pass p each w h = all-weaker is_digit p (λ b e. each b (digit b e)) w h

pub digits_plain : (w : List ℕ) → 0 < length w → list_all is_digit w ≡ true → is_plain_word w ≡ true
digits_plain w some h =
    and_from _ _ (and_from _ _ (and_from _ _ (not_from_false (length w == 0) (ne_eqb (length w) 0 (λ e. omega (arith, some)))) (digits_pass is_word_byte seen w h)) (not_from_false (is_bracketed w) (unbracketed w h)))
    (not_from_false (ends_with 92 w) (ends_other 92 w (digits_pass (λ b. not (b == 92)) (λ b d. other 92 b (inr (lit< tt)) d) w h)))

pub decimal_plain : (n : ℕ) → n < 10 ^ 64 → is_plain_word (decimal n) ≡ true
decimal_plain n small = digits_plain (decimal n) (decimal_some n small) (decimal_digits n small)

-- no digit of a number ends a list
pub decimal_listed : (n : ℕ) → n < 10 ^ 64 → list_all is_list_byte (decimal n) ≡ true
decimal_listed n small = decimal_passes is_list_byte (λ b d. and_from (is_word_byte b) (not (b == 41)) (seen b d) (other 41 b (inl (lit< tt)) d)) n small

-- ---- how long it is

-- a number of 128 bits has at most 39 digits
pub decimal_short : (n : ℕ) → n < 2 ^ 128 → length (decimal n) ≤ 39
decimal_short n small = length-decimal-le_wide 39 n (omega arith) (omega arith) (omega arith)

-- ---- as a value of a set

pub value_short : (v : ℕ) → v < MAX_VALUES → length (decimal v) ≤ 4
value_short v small = length-decimal-le_wide 4 v (omega arith) (omega arith) (omega arith)
