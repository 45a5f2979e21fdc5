-- Comment lines have no words, and every line of a text has bytes that can be seen alone, but for its spaces.
use Rattle.std.proofs.Common.{◌≡◌, ℕ, ◌≤◌, true, false, not, ◌&&◌, ◌==◌, List, [], ◌∷◌, ◌++◌, length, refl, ap, ◌∙◌, subst, sym, ⊎_elim, arith}
use Rattle.std.specs.Prelude.{nat_lt, nat_le}
use Rattle.std.specs.List.{list_all}
use Rattle.std.proofs.lemmas.Bool.{and_parts, or_cases, eqb-true, ne_eqb, not_from_false, not-true, leb-true, lt-ltb}
use Rattle.mv_base.specs.Names.{is_visible}
use Rattle.mv_base.proofs.Lists.{all-weaker}
use Rattle.mv_lex.specs.Lines.{joins, texts, is_readable}
use Rattle.mv_lines_back.specs.TextWords.{is_word_byte, is_written_word, is_written_line, is_comment, is_text_line}
use Rattle.mv_lines_back.proofs.Words.{written_word}

-- a line with a `#` at its front: it joins no line, has no text, and is readable
pub record IsPassedOver (line : List ℕ) : Type 0 where
  pub stops : joins line ≡ false
  pub text : texts (line ∷ []) ≡ []
  pub readable : is_readable line ≡ true

pub passed_over : (w rest : List ℕ) (ws : List (List ℕ)) → is_comment (w ∷ ws) ≡ true → IsPassedOver (w ++ rest)
passed_over [] rest ws h = cc
passed_over (b ∷ w) rest ws h =
    let P : ℕ → Type 0 = λ c. IsPassedOver (c ∷ (w ++ rest)) in
    subst P (sym (eqb-true b 35 (and_parts (nat_lt 0 (length (b ∷ w))) (b == 35) h).1)) (record { stops = refl; text = refl; readable = refl })

-- ---- every line of a text

-- a byte that can be seen is no space and no control
pub seen_other : (b end : ℕ) → end ≤ 32 → is_visible b ≡ true → not (b == end) ≡ true
seen_other b end low h =
    let least = leb-true 33 b (and_parts (nat_le 33 b) (nat_le b 126) h).0 in
    not_from_false (b == end) (ne_eqb b end (λ e. omega arith))

-- the line has words, all of whose bytes can be seen
pub record IsSeen (words : List (List ℕ)) : Type 0 where
  pub some : words ≡ [] → ⊥
  pub bytes : list_all (list_all is_visible) words ≡ true

-- the words of a line are written, if it has any
pub line_words : (words : List (List ℕ)) → is_written_line words ≡ true → list_all is_written_word words ≡ true
unfolding is_written_line
line_words words h = (and_parts (not (length words == 0)) (list_all is_written_word words) h).1

-- written words have bytes of words alone
pub written_bytes : (words : List (List ℕ)) → list_all is_written_word words ≡ true → list_all (list_all is_word_byte) words ≡ true
written_bytes words h = all-weaker is_written_word (list_all is_word_byte) (λ w e. (written_word w e).bytes) words h

pub seen_bytes : (words : List (List ℕ)) → list_all (list_all is_word_byte) words ≡ true → list_all (list_all is_visible) words ≡ true
seen_bytes words h = all-weaker (list_all is_word_byte) (list_all is_visible) (λ w e. all-weaker is_word_byte is_visible (λ b y. (and_parts (is_visible b) (not (b == 35)) y).0) w e) words h

pub text_line-seen : (words : List (List ℕ)) → is_text_line words ≡ true → IsSeen words
unfolding is_text_line is_written_line
text_line-seen [] h = cc
text_line-seen (w ∷ ws) h =
    record {
      some = λ e. cc;
      bytes =
          ⊎_elim
          (λ (y : is_written_line (w ∷ ws) ≡ true). seen_bytes (w ∷ ws) (written_bytes (w ∷ ws) (line_words (w ∷ ws) y)))
          (λ (n : (is_comment (w ∷ ws) && list_all (list_all is_visible) (w ∷ ws)) ≡ true). (and_parts (is_comment (w ∷ ws)) _ n).1)
          (or_cases (is_written_line (w ∷ ws)) _ h);
    }

-- a written line is no comment
pub written-uncommented : (words : List (List ℕ)) → is_written_line words ≡ true → is_comment words ≡ false
unfolding is_written_line
written-uncommented [] h = refl
written-uncommented ([] ∷ ws) h = refl
written-uncommented ((b ∷ w) ∷ ws) h =
    let word = (and_parts (is_written_word (b ∷ w)) (list_all is_written_word ws) (line_words ((b ∷ w) ∷ ws) h)).0 in
    let byte = (and_parts (is_word_byte b) (list_all is_word_byte w) (written_word (b ∷ w) word).bytes).0 in
    ap (λ t. t && (b == 35)) (lt-ltb 0 (length (b ∷ w)) (omega arith)) ∙ not-true (b == 35) (and_parts (is_visible b) (not (b == 35)) byte).1
