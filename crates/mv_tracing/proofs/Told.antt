-- The line that tells a cause, in the pieces in which it is put.
use Rattle.std.proofs.Common.{◌≡◌, ◌∙◌, ℕ, List, [], ◌∷◌, ◌++◌, sym, ap, append_assoc}
use Rattle.std.specs.Prelude.{codes, decimal}
use Rattle.mv_tracing.specs.RunFiles.{told_line}

pub told_first : (line : ℕ) (cause digits : List ℕ) → digits ≡ decimal line → told_line line cause ≡ (codes "# fault trace " ++ digits) ++ (32 ∷ cause ++ 10 ∷ [])
told_first line cause digits e =
    append_assoc (codes "# fault trace " ++ decimal line) (32 ∷ cause) (10 ∷ []) ∙ ap (λ d. (codes "# fault trace " ++ d) ++ (32 ∷ cause ++ 10 ∷ [])) (sym e)
