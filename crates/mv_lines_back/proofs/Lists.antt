-- A plain word is read back, and so is a list in brackets, of which no byte but the last is a `)`.
use Rattle.std.proofs.Common.{◌≡◌, ℕ, Bool, true, not, ◌&&◌, ◌==◌, List, [], ◌∷◌, ◌++◌, refl, ◌∙◌}
use Rattle.std.specs.List.{list_all}
use Rattle.std.proofs.lemmas.Bool.{cond-false, and_parts, and_from, or_left, or_right, not-true}
use Rattle.mv_lines_back.specs.TextWords.{is_word_byte, is_list_rest, is_list_word, is_written_word, is_plain_word}

pub plain-written : (w : List ℕ) → is_plain_word w ≡ true → is_written_word w ≡ true
unfolding is_written_word
plain-written w h = or_left (is_plain_word w) (is_list_word w) h

-- a byte of a word but the closing bracket may stand in a list
abbrev pub is_list_byte : ℕ → Bool
is_list_byte b = is_word_byte b && not (b == 41)

closed_list : (bs : List ℕ) → list_all is_list_byte bs ≡ true → is_list_rest (bs ++ 41 ∷ []) ≡ true
closed_list [] h = refl
closed_list (b ∷ bs) h =
    let both = and_parts (is_list_byte b) (list_all is_list_byte bs) h in
    let byte = and_parts (is_word_byte b) (not (b == 41)) both.0 in
    cond-false (b == 41) _ _ (not-true (b == 41) byte.1) ∙ and_from (is_word_byte b) _ byte.0 (closed_list bs both.1)

pub list-written : (bs : List ℕ) → list_all is_list_byte bs ≡ true → is_written_word (40 ∷ (bs ++ 41 ∷ [])) ≡ true
unfolding is_written_word
list-written bs h = or_right (is_plain_word (40 ∷ (bs ++ 41 ∷ []))) (is_list_word (40 ∷ (bs ++ 41 ∷ []))) (closed_list bs h)
