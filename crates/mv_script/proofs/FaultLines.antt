-- The line of a fault, piece by piece.
use Rattle.std.proofs.Common.{◌≡◌, ℕ, List, [], ◌∷◌, ◌++◌, sym, ◌∙◌, ap}
use Rattle.std.specs.Prelude.{decimal}
use Rattle.mv_script.specs.declared.fault.TextFault.{TextFault}
use Rattle.mv_script.specs.Faults.{kind_words, fault_line}

-- the words before the place, the place, and the end of the line
pub place_first : (f : TextFault) (words place : List ℕ) → words ≡ kind_words f.kind → place ≡ decimal f.place → fault_line f ≡ (words ++ place) ++ 10 ∷ []
place_first f words place e h =
    ap (λ w. (w ++ decimal f.place) ++ 10 ∷ []) (sym e) ∙ ap (λ p. (words ++ p) ++ 10 ∷ []) (sym h)
