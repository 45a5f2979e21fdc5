-- Lines of words and numbers.
use Rattle.std.specs.Prelude.{ℕ, List, [], ◌∷◌, ◌++◌, decimal}

-- a line of these words and a number
abbrev pub number_line : List ℕ → ℕ → List ℕ
number_line words number = words ++ decimal number ++ 10 ∷ []

-- a line of these words and two numbers
abbrev pub numbers_line : List ℕ → ℕ → ℕ → List ℕ
numbers_line words first second = words ++ decimal first ++ 32 ∷ decimal second ++ 10 ∷ []
