-- The number that digits say, digit by digit.
use Rattle.std.proofs.Common.{◌≡◌, ℕ, ◌+◌, ◌*◌, ◌-◌, List, [], ◌∷◌, ◌++◌, length, take, get_or, length-append, refl, ap, ◌∙◌, add-one, arith}
use Rattle.std.proofs.Math.Nat.{pow-suc, mul_assoc}
use Rattle.std.proofs.Math.Seq.{take-suc}
use Rattle.std.specs.Prelude.{◌^◌, ◌<◌}
use Rattle.mv_script.specs.Numbers.{number_said}

-- with one more digit
pub number_more : (w : List ℕ) (b : ℕ) → number_said (w ++ b ∷ []) ≡ number_said w * 10 + (b - 48)
number_more [] b = omega arith
number_more (d ∷ w) b =
    let longer : length (w ++ b ∷ []) ≡ length w + 1 = simp length-append in
    let place : (d - 48) * 10 ^ length (w ++ b ∷ []) ≡ ((d - 48) * 10 ^ length w) * 10 = rw (longer, add-one, pow-suc 10 (length w), ← mul_assoc (d - 48) (10 ^ length w) 10) refl in
    let rest = number_more w b in
    omega (arith, place, rest)

-- the same of the digits that were read
pub digit_more : (w : List ℕ) (i : ℕ) → i < length w → number_said (take (i + 1) w) ≡ number_said (take i w) * 10 + (get_or w i 0 - 48)
digit_more w i h =
    let b = get_or w i 0 in
    let longer : take (i + 1) w ≡ take i w ++ b ∷ [] = rw add-one (take-suc w i 0 h) in
    ap number_said longer ∙ number_more (take i w) b
