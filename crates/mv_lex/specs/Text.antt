-- Lines as they are written.
use Rattle.std.specs.Prelude.{ℕ, List, [], ◌∷◌, ◌++◌}
use Rattle.std.specs.List.{flat_map}

-- the words behind the first one, each with a space before it
unfoldable pub spaced : List (List ℕ) → List ℕ
spaced words = flat_map (λ w. 32 ∷ w) words

-- a line as it is written: its words parted by one space, ended by a line feed
unfoldable pub line_text : List (List ℕ) → List ℕ
line_text [] = 10 ∷ []
line_text (w ∷ ws) = w ++ (spaced ws ++ 10 ∷ [])
