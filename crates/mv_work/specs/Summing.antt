-- The summary of a run on a work network.
use Rattle.std.specs.Prelude.{ℕ, List, [], ◌∷◌, ◌++◌, flat_map, codes, decimal}
use Rattle.mv_work.specs.declared.summary.Summary.{Summary}

-- numbers, each behind a blank
abbrev pub numbers_text : List ℕ → List ℕ
numbers_text numbers = flat_map (λ n. 32 ∷ decimal n) numbers

-- a line of a word and numbers
abbrev pub number_line : List ℕ → List ℕ → List ℕ
number_line word numbers = word ++ numbers_text numbers ++ codes "\n"

-- the lines of a summary
unfoldable pub summary_text : Summary → List ℕ
summary_text s =
    number_line (codes "nets") (s.nets ∷ [])
    ++ number_line (codes "literals") (s.literals_before ∷ s.literals_after ∷ [])
    ++ number_line (codes "commands") (s.commands ∷ [])
    ++ number_line (codes "rules") (s.rules ∷ [])
    ++ number_line (codes "dropped") (s.dropped ∷ [])
