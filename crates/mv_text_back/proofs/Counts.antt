-- A number in decimal as the count of a declaration.
use Rattle.std.proofs.Common.{◌≡◌, ◌∙◌, ℕ, ◌+◌, ◌%◌, ◌^◌, ◌<◌, true, ◌&&◌, [], ◌∷◌, decimal, refl, arith}
use Rattle.std.specs.Prelude.{nat_le}
use Rattle.std.proofs.lemmas.Bool.{and_from, le-leb}
use Rattle.std.proofs.lemmas.List.Folds.{list_all-append}
use Rattle.std.proofs.lemmas.Nat.{div-add-mod'}
use Rattle.std.proofs.lemmas.Fmt.{decimal_by_steps}
use Rattle.mv_decl.specs.Line.{is_digits, number_said}
use Rattle.mv_decl.proofs.Numbers.{number_more}

digit : (d : ℕ) → d < 10 → is_digits ((48 + d) ∷ []) ≡ true
digit d small = and_from _ _ (and_from _ _ (le-leb 48 (48 + d) (omega arith)) (le-leb (48 + d) 57 (omega arith))) refl

pub decimal-digits : (n : ℕ) → n < 2 ^ 64 → is_digits (decimal n) ≡ true
decimal-digits =
    decimal_by_steps (λ m ds. is_digits ds ≡ true)
    digit
    (λ m ds large h. list_all-append (λ b. nat_le 48 b && nat_le b 57) ds ((48 + m % 10) ∷ []) ∙ and_from _ _ h (digit (m % 10) (omega arith)))

-- its digits say it
pub number-decimal : (n : ℕ) → n < 2 ^ 64 → number_said (decimal n) ≡ n
number-decimal =
    decimal_by_steps (λ m ds. number_said ds ≡ m)
    (λ m small. omega arith)
    (λ m ds large h.
    let more = number_more ds (48 + m % 10) in
    let split = div-add-mod' m 10 in
    omega (arith, more, h, split))
