-- Names of values that are numbers. For private functions.
use Rattle.std.specs.Prelude.{ℕ, ◌+◌, Bool, true, ◌&&◌, List, [], ◌∷◌, nat_eq, decimal}
use Rattle.std.specs.Cmp.Lexicographic.{pointwise}

-- the names are the numbers from n on
abbrev pub numbers_from : ℕ → List (List ℕ) → Bool
numbers_from n [] = true
numbers_from n (w ∷ ws) = pointwise nat_eq w (decimal n) && numbers_from (n + 1) ws
