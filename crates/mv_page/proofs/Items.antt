-- The items of a list, whose texts are put one after the other.
use Rattle.std.proofs.Common.{◌≡◌, ◌∙◌, ℕ, ◌+◌, ◌<◌, List, ◌∷◌, ◌++◌, length, get_or, drop, sym, ap}
use Rattle.std.proofs.lemmas.List.{at_drop_more}

-- the text of what is left of a list is that of its first item and that of the others
pub items-more : {X : Type 0} (text : List X → List ℕ) (one : X → List ℕ) (xs : List X) (i : ℕ) (x : X) → ((y : X) (ys : List X) → text (y ∷ ys) ≡ one y ++ text ys) → i < length xs → x ≡ get_or xs i x → text (drop i xs) ≡ one x ++ text (drop (i + 1) xs)
items-more text one xs i x more low is =
    at_drop_more text xs i x low ∙ (more (get_or xs i x) (drop (i + 1) xs) ∙ ap (λ y. one y ++ text (drop (i + 1) xs)) (sym is))
