-- The line that tells a cause, in the pieces in which it is put.
use Rattle.std.proofs.Common.{◌≡◌, ◌∙◌, ℕ, List, [], ◌∷◌, ◌++◌, sym, ap, append_assoc}
use Rattle.std.specs.Prelude.{codes, decimal}
use Rattle.mv_check.specs.Tellings.{told_line}

pub told_first : (line : ℕ) (cause digits : List ℕ) → digits ≡ decimal line → told_line line cause ≡ (codes "# fault certificate " ++ digits) ++ (32 ∷ cause ++ 10 ∷ [])
told_first line cause digits e =
    append_assoc (codes "# fault certificate " ++ decimal line) (32 ∷ cause) (10 ∷ []) ∙ ap (λ d. (codes "# fault certificate " ++ d) ++ (32 ∷ cause ++ 10 ∷ [])) (sym e)
