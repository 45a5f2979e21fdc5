-- Words and lines that are read back as they are written, bracketed words among them, and comment
-- lines, which are passed over.
use Rattle.std.specs.Prelude.{ℕ, Bool, false, ◌&&◌, ◌||◌, not, ◌==◌, ◌+◌, List, [], ◌∷◌, ◌++◌, length, if◌then◌else◌}
use Rattle.std.specs.List.{list_all}
use Rattle.mv_base.specs.Names.{is_visible, is_bracketed, begins_with, ends_with}
use Rattle.mv_lex.specs.declared.lines.LexLine.{LexLine}

-- a byte of a word: it can be seen, and begins no comment
abbrev pub is_word_byte : ℕ → Bool
is_word_byte b = is_visible b && not (b == 35)

-- the bytes behind the `(` of a list: those of words, of which the first `)` is the last
abbrev pub is_list_rest : List ℕ → Bool
is_list_rest [] = false
is_list_rest (b ∷ bs) = if b == 41 then length bs == 0 else is_word_byte b && is_list_rest bs

-- a list in brackets: it begins with `(`, ends with its only `)`, and all its bytes are those of
-- words
abbrev pub is_list_word : List ℕ → Bool
is_list_word [] = false
is_list_word (b ∷ bs) = (b == 40) && is_list_rest bs

-- a plain word: it has a byte, all its bytes are those of words, it isn't bracketed, and it doesn't
-- end in `\`
abbrev pub is_plain_word : List ℕ → Bool
is_plain_word w = not (length w == 0) && list_all (λ b. is_visible b && not (b == 35)) w
    && not (is_bracketed w) && not (ends_with 92 w)

-- a word that is read back as it is written: a plain one, or a list in brackets
unfoldable pub is_written_word : List ℕ → Bool
is_written_word w = is_plain_word w || is_list_word w

-- a line that is read back as it is written: it has a word, and each is such a word
unfoldable pub is_written_line : List (List ℕ) → Bool
is_written_line words = not (length words == 0) && list_all is_written_word words

-- the lines with these words, one on each physical line, the first of which has this number
abbrev pub lines_from : ℕ → List (List (List ℕ)) → List LexLine
lines_from number [] = []
lines_from number (ws ∷ ls) = record { number = number; words = ws } ∷ lines_from (number + 1) ls

-- a comment line: its first word begins with `#`
abbrev pub is_comment : List (List ℕ) → Bool
is_comment [] = false
is_comment (w ∷ ws) = begins_with 35 w

-- a line of a text with comments: one that is read back as it is written, or a comment line whose
-- words can all be seen
unfoldable pub is_text_line : List (List ℕ) → Bool
is_text_line words = is_written_line words
    || (is_comment words && list_all (list_all is_visible) words)

-- the lines with these words, one on each physical line, the first of which has this number. A
-- comment line is left out, but has its number
abbrev pub lines_told : ℕ → List (List (List ℕ)) → List LexLine
lines_told number [] = []
lines_told number (ws ∷ ls) =
    (if is_comment ws then [] else record { number = number; words = ws } ∷ [])
    ++ lines_told (number + 1) ls
