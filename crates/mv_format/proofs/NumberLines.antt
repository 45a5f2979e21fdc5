-- Lines of words and numbers, in the pieces in which they are put.
use Rattle.std.proofs.Common.{◌≡◌, ◌∙◌, ℕ, List, [], ◌∷◌, ◌++◌, sym, ap, append_assoc}
use Rattle.std.specs.Prelude.{decimal}
use Rattle.mv_format.specs.Lines.{number_line, numbers_line}

pub number_first : (words : List ℕ) (number : ℕ) (digits : List ℕ) → digits ≡ decimal number → number_line words number ≡ (words ++ digits) ++ 10 ∷ []
number_first words number digits e = ap (λ d. (words ++ d) ++ 10 ∷ []) (sym e)

pub numbers_first : (words : List ℕ) (first second : ℕ) (digits : List ℕ) → digits ≡ decimal first → numbers_line words first second ≡ (words ++ digits) ++ (32 ∷ decimal second ++ 10 ∷ [])
numbers_first words first second digits e =
    append_assoc (words ++ decimal first) (32 ∷ decimal second) (10 ∷ []) ∙ ap (λ d. (words ++ d) ++ (32 ∷ decimal second ++ 10 ∷ [])) (sym e)

pub numbers_second : (second : ℕ) (digits : List ℕ) → digits ≡ decimal second → 32 ∷ decimal second ++ 10 ∷ [] ≡ (32 ∷ [] ++ digits) ++ 10 ∷ []
numbers_second second digits e = ap (λ d. 32 ∷ d ++ 10 ∷ []) (sym e)
