-- What stands in several lists of a model in one, as the file has it: by line.
use Rattle.std.specs.Prelude.{ℕ, nat_lt, List, [], ◌∷◌, ◌++◌, if◌then◌else◌}

-- those at the front of a list that stand before a line
abbrev pub before_line : {X : Type 0} → (X → ℕ) → ℕ → List X → List X
before_line line at [] = []
before_line line at (y ∷ ys) = if nat_lt (line y) at then y ∷ before_line line at ys else []

-- the others
abbrev pub from_line : {X : Type 0} → (X → ℕ) → ℕ → List X → List X
from_line line at [] = []
from_line line at (y ∷ ys) = if nat_lt (line y) at then from_line line at ys else y ∷ ys

-- two lists in one, each by ascending line: before each of the first stand those of the second that
-- stand before its line
abbrev pub by_line : {X : Type 0} → (X → ℕ) → List X → List X → List X
by_line line [] ys = ys
by_line line (x ∷ xs) ys = before_line line (line x) ys ++ x
    ∷ by_line line xs (from_line line (line x) ys)
