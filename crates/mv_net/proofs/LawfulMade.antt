-- Made names are lawful names of nets, and short.
use Rattle.std.proofs.Common.{◌≡◌, ◌∙◌, ℕ, ◌+◌, ◌<◌, ◌≤◌, ◌^◌, Bool, true, false, not, ◌&&◌, List, [], ◌∷◌, ◌++◌, length, decimal, refl, sym, ap, arith, rules}
use Rattle.std.specs.Prelude.{◌==◌, ◌-◌, suc, nat_lt, slice_index}
use Rattle.std.specs.Char.{is_ascii_digit}
use Rattle.std.specs.List.{list_all, list_any}
use Rattle.std.proofs.lemmas.Bool.{and_from, and_parts, and_right}
use Rattle.std.proofs.lemmas.Bool.Decides.{nat_tests, Decides-ltb}
use Rattle.std.proofs.lemmas.Fmt.{digits_decimal, length-decimal-le}
use Rattle.std.proofs.lemmas.Str.Parse.{IsNumeralModel, numerals_by_value}
use Rattle.std.specs.Str.Parse.{digits_value}
use Rattle.mv_base.specs.Names.{is_visible, ends_with, is_word, is_net_name}
use Rattle.mv_net.specs.Fresh.{made_name}

-- a digit can be seen, and is neither `#` nor `,` nor `\`
digit_seen : (b : ℕ) → is_ascii_digit b ≡ true → (is_visible b && not (b == 35)) ≡ true
digit_seen b y = grind (arith, nat_tests)

digit_is_no : (b x : ℕ) → is_ascii_digit b ≡ true → 57 < x → (b == x) ≡ false
digit_is_no b x y high = grind (arith, nat_tests)

digit_is_no_comma : (b : ℕ) → is_ascii_digit b ≡ true → (b == 44) ≡ false
digit_is_no_comma b y = grind (arith, nat_tests)

digits_seen : (ds : List ℕ) → list_all is_ascii_digit ds ≡ true → list_all (λ b. is_visible b && not (b == 35)) ds ≡ true
digits_seen [] h = refl
digits_seen (d ∷ ds) h = let p = and_parts _ _ h in and_from _ _ (digit_seen d p.0) (digits_seen ds p.1)

digits_without_comma : (ds : List ℕ) → list_all is_ascii_digit ds ≡ true → list_any (λ b. b == 44) ds ≡ false
digits_without_comma [] h = refl
digits_without_comma (d ∷ ds) h = let p = and_parts _ _ h in rw (digit_is_no_comma d p.0) (digits_without_comma ds p.1)

-- the last of a byte and the digits behind it
last_of : (b : ℕ) (ds : List ℕ) → (b == 92) ≡ false → list_all is_ascii_digit ds ≡ true → (slice_index (b ∷ ds) (length ds) == 92) ≡ false
last_of b [] other h = other
last_of b (d ∷ ds) other h = let p = and_parts _ _ h in last_of d ds (digit_is_no d 92 p.0 (omega arith)) p.1

numerals : IsNumeralModel (λ ds. list_all is_ascii_digit ds ≡ true) (digits_value 10)
numerals = numerals_by_value _ (search rules)

ends : (ds : List ℕ) → list_all is_ascii_digit ds ≡ true → ends_with 92 (95 ∷ 109 ∷ ds) ≡ false
ends ds are =
    let w = 95 ∷ 109 ∷ ds in
    let e : length w - 1 ≡ suc (length ds) = omega arith in
    ap (λ k. nat_lt 0 (length w) && (slice_index w k == 92)) e ∙ ap (λ b. nat_lt 0 (length w) && b) (last_of 109 ds refl are) ∙ and_right (nat_lt 0 (length w)) false refl

digits_lawful : (ds : List ℕ) → list_all is_ascii_digit ds ≡ true → is_net_name (95 ∷ 109 ∷ ds) ≡ true
unfolding is_net_name is_word
digits_lawful ds are =
    let seen : list_all (λ b. is_visible b && not (b == 35)) (95 ∷ 109 ∷ ds) ≡ true = and_from _ _ refl (and_from _ _ refl (digits_seen ds are)) in
    let some : nat_lt 0 (length (95 ∷ 109 ∷ ds)) ≡ true = (Decides-ltb 0 (length (95 ∷ 109 ∷ ds))).1 (omega arith) in
    let word = and_from _ _ (and_from _ _ some seen) refl in
    and_from _ _ (and_from _ _ (and_from _ _ (and_from _ _ word refl) (ap not (and_right (nat_lt 0 (length (95 ∷ 109 ∷ ds))) false refl))) (ap not (digits_without_comma ds are))) (ap not (ends ds are))

pub made_lawful : (n : ℕ) → n < 2 ^ 64 → is_net_name (made_name n) ≡ true
made_lawful n small = digits_lawful (decimal n) (digits_decimal numerals n small)

pub made_short : (n : ℕ) → n < 2 ^ 64 → length (made_name n) ≤ 1024
made_short n small = let few = length-decimal-le 20 n (omega arith) (omega arith) small in omega (arith, few)
