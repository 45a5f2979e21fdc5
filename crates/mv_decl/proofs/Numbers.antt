-- The number that digits say.
use Rattle.std.proofs.Common.{◌≡◌, ℕ, ◌+◌, ◌*◌, ◌-◌, List, [], ◌∷◌, ◌++◌, length, length-append, refl, add-one, arith}
use Rattle.std.proofs.Math.Nat.{pow-suc, mul_assoc}
use Rattle.std.specs.Prelude.{decimal, min, ◌^◌}
use Rattle.std.proofs.lemmas.List.FromFn.{map-range_with_len_more, length-map-range_with_len}
use Rattle.mv_decl.specs.Line.{number_said, numbers_below, told_number}

-- with one more digit
pub number_more : (w : List ℕ) (b : ℕ) → number_said (w ++ b ∷ []) ≡ number_said w * 10 + (b - 48)
number_more [] b = omega arith
number_more (d ∷ w) b =
    let longer : length (w ++ b ∷ []) ≡ length w + 1 = simp length-append in
    let place : (d - 48) * 10 ^ length (w ++ b ∷ []) ≡ ((d - 48) * 10 ^ length w) * 10 = rw (longer, add-one, pow-suc 10 (length w), ← mul_assoc (d - 48) (10 ^ length w) 10) refl in
    let rest = number_more w b in
    omega (arith, place, rest)

-- a number that stops at the greatest one, with one more digit
pub told_more : (n next number product digit result b : ℕ) → number ≡ told_number n → next ≡ n * 10 + (b - 48) → digit ≡ b - 48 → product ≡ min (number * 10) (2 ^ 64 - 1) → result ≡ min (product + digit) (2 ^ 64 - 1) → result ≡ told_number next
told_more n next number product digit result b told more d p r = omega arith

-- one more number
pub numbers_more : (n : ℕ) → numbers_below (n + 1) ≡ numbers_below n ++ decimal n ∷ []
numbers_more n = map-range_with_len_more decimal 0 n n (omega arith)

pub numbers_size : (n : ℕ) → length (numbers_below n) ≡ n
numbers_size n = length-map-range_with_len decimal 0 n

pub ruleset numbers = (numbers_more, numbers_size)
