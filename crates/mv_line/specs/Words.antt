-- The words of a line.
use Rattle.std.specs.Prelude.{ℕ, List, [], ◌∷◌, drop}
use Rattle.mv_lex.specs.declared.lines.LexLine.{LexLine}

-- the first of these words, or no bytes where there is none
abbrev pub first_of : List (List ℕ) → List ℕ
first_of [] = []
first_of (w ∷ words) = w

-- the first word of a line
abbrev pub first_word : LexLine → List ℕ
first_word l = first_of l.words

-- the words of a line behind its first
abbrev pub behind_first : LexLine → List (List ℕ)
behind_first l = drop 1 l.words
