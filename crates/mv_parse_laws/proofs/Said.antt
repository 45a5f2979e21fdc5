-- What lines say one by one: what one more line adds.
use Rattle.std.proofs.Common.{List, [], ◌∷◌, ◌++◌, sym, subst}
use Rattle.std.specs.Prelude.{All}
use Rattle.std.specs.List.{flat_map}
use Rattle.std.proofs.lemmas.Grind.{flat_map-append}
use Rattle.std.proofs.lemmas.List.Elements.{All-nil, All-append}
use Rattle.mv_lex.specs.declared.lines.LexLine.{LexLine}

pub said-push : {X : Type 0} (P : X → Type 0) (said : LexLine → List X) (ls : List LexLine) (l : LexLine) → All P (flat_map said ls) → All P (said l)
    → All P (flat_map said (ls ++ l ∷ []))
said-push P said ls l h here =
    subst (All P) (sym (flat_map-append said ls (l ∷ [])))
    (All-append P (flat_map said ls) (said l ++ []) h (All-append P (said l) [] here (All-nil P)))
