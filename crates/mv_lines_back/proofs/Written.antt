-- Lines that were written are read back, lines with bracketed words among them, and comment lines are passed over.
use Rattle.std.proofs.Common.{◌≡◌, ℕ, ◌+◌, ◌≤◌, Bool, true, false, not, ◌&&◌, ◌||◌, ◌==◌, List, [], ◌∷◌, ◌++◌, length, None, refl, ap, sym, ◌∙◌, subst, append_assoc, arith}
use Rattle.std.specs.Prelude.{nat_le, if◌then◌else◌}
use Rattle.std.specs.List.{list_all, list_any, flat_map, slice_split}
use Rattle.std.proofs.lemmas.Bool.{and_parts, and_from, or_left, or_parts, or_from, not_from_false, le-leb}
use Rattle.std.proofs.lemmas.List.{append-nil}
use Rattle.std.proofs.lemmas.List.Folds.{list_any-append}
use Rattle.mv_base.specs.Names.{is_visible, ends_with}
use Rattle.mv_base.proofs.Lists.{all-weaker}
use Rattle.mv_lex.specs.declared.parts.Kind.TheVariants.{Start}
use Rattle.mv_lex.specs.Words.{Cut, cut_of, finished, waits, is_long}
use Rattle.mv_lex.specs.Lines.{is_acceptable, is_line_feed, is_hash, joins, texts, all_joined, words_of, line_at, numbered, is_readable, is_closed, lines_of, is_clean, is_within, has_long_word, lex_fault}
use Rattle.mv_lex.specs.Steps.{with_bytes}
use Rattle.mv_lex.specs.Text.{spaced, line_text}
use Rattle.mv_lex.proofs.Cutting.{cut_at, cut_of-bytes, with_bytes-append}
use Rattle.mv_lex.proofs.Tails.{before_hash-clear}
use Rattle.mv_lex.proofs.Letters.{word_byte}
use Rattle.mv_lex.proofs.Facts.{no_fault_is_clean}
use Rattle.mv_lines_back.specs.TextWords.{is_word_byte, is_written_word, is_written_line, lines_from, is_comment, is_text_line, lines_told}
use Rattle.mv_lines_back.proofs.Ends.{ends_with-behind, own_text}
use Rattle.mv_lines_back.proofs.Words.{written_word, cut-back}
use Rattle.mv_lines_back.proofs.Spaced.{line_passes, words_pass, split-line_text}
use Rattle.mv_lines_back.proofs.Comments.{passed_over, line_words, written_bytes, text_line-seen, seen_other, written-uncommented}

-- ---- written words parted by spaces

line_ends : (w : List ℕ) (ws : List (List ℕ)) → list_all is_written_word (w ∷ ws) ≡ true → ends_with 92 (w ++ spaced ws) ≡ false
unfolding spaced
line_ends w [] h = rw (append-nil w) (written_word w (and_parts (is_written_word w) true h).0).ends
line_ends w (v ∷ ws) h =
    let both = and_parts (is_written_word w) (list_all is_written_word (v ∷ ws)) h in
    ends_with-behind 92 w 32 (v ++ spaced ws) ∙ (behind_space (v ++ spaced ws) (line_ends v ws both.1))
  where
    behind_space : (bs : List ℕ) → ends_with 92 bs ≡ false → ends_with 92 (32 ∷ bs) ≡ false
    behind_space [] e = refl
    behind_space (b ∷ bs) e = ends_with-behind 92 (32 ∷ []) b bs ∙ e

-- a cut gives these words, and no bracket is left open
record IsCutTo (all : List (List ℕ)) (cut : Cut) : Type 0 where
  words : finished cut ≡ all
  closed : waits cut.kind ≡ false

-- words behind others that have ended
cut_spaced : (done : List (List ℕ)) (w : List ℕ) (ws : List (List ℕ)) → list_all is_written_word (w ∷ ws) ≡ true → IsCutTo (done ++ w ∷ ws) (with_bytes (cut_at done [] Start) (w ++ spaced ws))
unfolding spaced
cut_spaced done w [] h =
    let back = cut-back done w (and_parts (is_written_word w) true h).0 in
    rw (append-nil w) (record { words = back.whole; closed = back.closed })
cut_spaced done w (v ∷ ws) h =
    let both = and_parts (is_written_word w) (list_all is_written_word (v ∷ ws)) h in
    let back = cut-back done w both.0 in
    let cut : with_bytes (cut_at done [] Start) (w ++ 32 ∷ (v ++ spaced ws)) ≡ with_bytes (cut_at (done ++ w ∷ []) [] Start) (v ++ spaced ws) = with_bytes-append (cut_at done [] Start) w (32 ∷ (v ++ spaced ws)) ∙ ap (λ c. with_bytes c (v ++ spaced ws)) back.blank in
    let P : Cut → Type 0 = λ c. IsCutTo (done ++ w ∷ v ∷ ws) c in
    let Q : List (List ℕ) → Type 0 = λ all. IsCutTo all (with_bytes (cut_at (done ++ w ∷ []) [] Start) (v ++ spaced ws)) in
    subst P (sym cut) (subst Q (append_assoc done (w ∷ []) (v ∷ ws)) (cut_spaced (done ++ w ∷ []) v ws both.1))

cut-spaced : (w : List ℕ) (ws : List (List ℕ)) → list_all is_written_word (w ∷ ws) ≡ true → IsCutTo (w ∷ ws) (cut_of (w ++ spaced ws))
cut-spaced w ws h =
    let P : Cut → Type 0 = λ c. IsCutTo (w ∷ ws) c in
    subst P (sym (cut_of-bytes (w ++ spaced ws))) (cut_spaced [] w ws h)

-- ---- one line

-- a physical line that is read as these words, and as a joined line of its own
record IsReadAs (words : List (List ℕ)) (line : List ℕ) : Type 0 where
  stops : joins line ≡ false
  cut : words_of (texts (line ∷ [])) ≡ words
  readable : is_readable line ≡ true
  closed : is_closed (line ∷ []) ≡ true

written_read : (w : List ℕ) (ws : List (List ℕ)) → list_all is_written_word (w ∷ ws) ≡ true → IsReadAs (w ∷ ws) (w ++ spaced ws)
unfolding cut_of
written_read w ws h =
    let line = w ++ spaced ws in
    let bytes = written_bytes (w ∷ ws) h in
    let passes : (q : ℕ → Bool) → ((b : ℕ) → is_word_byte b ≡ true → q b ≡ true) → q 32 ≡ true → list_all q line ≡ true = λ q each s. line_passes q w ws s (words_pass is_word_byte q each (w ∷ ws) bytes) in
    let hashes = passes (λ b. not (is_hash b)) (λ b y. not_from_false (is_hash b) (word_byte b y).hash) refl in
    let returns = passes (λ b. not (b == 13)) (λ b y. not_from_false (b == 13) (word_byte b y).returns) refl in
    let own = own_text line hashes returns (line_ends w ws h) in
    let to = cut-spaced w ws h in
    record {
      stops = own.stops;
      cut = ap words_of own.text ∙ to.words;
      readable = ap (list_all is_acceptable) (before_hash-clear line own.clear) ∙ passes is_acceptable (λ b y. (word_byte b y).acceptable) refl;
      closed = not_from_false _ (ap (λ t. waits (cut_of t).kind) own.text ∙ to.closed);
    }

-- a comment line has no words
comment_read : (w : List ℕ) (ws : List (List ℕ)) → is_comment (w ∷ ws) ≡ true → IsReadAs [] (w ++ spaced ws)
unfolding cut_of
comment_read w ws h =
    let over = passed_over w (spaced ws) ws h in
    record {
      stops = over.stops;
      cut = ap words_of over.text;
      readable = over.readable;
      closed = not_from_false _ (ap (λ t. waits (cut_of t).kind) over.text);
    }

-- the words that are left of a line
told_words : List (List ℕ) → List (List ℕ)
told_words ws = if is_comment ws then [] else ws

line_read : (w : List ℕ) (ws : List (List ℕ)) → is_text_line (w ∷ ws) ≡ true → IsReadAs (told_words (w ∷ ws)) (w ++ spaced ws)
unfolding told_words is_text_line
line_read w ws h =
    elim (is_comment (w ∷ ws)) as (λ t. is_comment (w ∷ ws) ≡ t → IsReadAs (if t then [] else w ∷ ws) (w ++ spaced ws)) [
      | true ↦ λ y. comment_read w ws y
      | false ↦ λ n. written_read w ws (line_words (w ∷ ws) (or_written (is_written_line (w ∷ ws)) (is_comment (w ∷ ws)) _ h n))
    ] refl
  where
    or_written : (a b c : Bool) → (a || (b && c)) ≡ true → b ≡ false → a ≡ true
    or_written true b c h n = refl
    or_written false b c h n = sym (ap (λ b. b && c) n) ∙ h

-- ---- the lines of a written file

all_joined-first : (line : List ℕ) (lines : List (List ℕ)) → joins line ≡ false → all_joined (line ∷ lines) ≡ (line ∷ []) ∷ all_joined lines
all_joined-first line lines e = rw e refl

-- a line of a text, told or left out
line_at-told : (number : ℕ) (w : List ℕ) (ws : List (List ℕ)) → line_at number (told_words (w ∷ ws)) ≡ (if is_comment (w ∷ ws) then [] else record { number = number; words = w ∷ ws } ∷ [])
unfolding told_words
line_at-told number w ws =
    elim (is_comment (w ∷ ws)) as (λ t. line_at number (if t then [] else w ∷ ws) ≡ (if t then [] else record { number = number; words = w ∷ ws } ∷ [])) [
      | true ↦ refl
      | false ↦ refl
    ]

-- the bytes are read as these lines, from whichever number they are counted, and are clean
record AreReadAs (ls : List (List (List ℕ))) (bytes : List ℕ) : Type 0 where
  lines : (number : ℕ) → numbered number (all_joined (slice_split is_line_feed bytes)) ≡ lines_told number ls
  readable : list_all is_readable (slice_split is_line_feed bytes) ≡ true
  closed : list_all is_closed (all_joined (slice_split is_line_feed bytes)) ≡ true

text_read : (ls : List (List (List ℕ))) → list_all is_text_line ls ≡ true → AreReadAs ls (flat_map line_text ls)
unfolding cut_of
text_read [] h = record { lines = λ number. refl; readable = refl; closed = refl }
text_read ([] ∷ ls) h = absurd ((text_line-seen [] (and_parts (is_text_line []) (list_all is_text_line ls) h).0).some refl)
text_read ((w ∷ ws) ∷ ls) h =
    let both = and_parts (is_text_line (w ∷ ws)) (list_all is_text_line ls) h in
    let rest = text_read ls both.1 in
    let line = w ++ spaced ws in
    let is = line_read w ws both.0 in
    let more = flat_map line_text ls in
    let feedless = line_passes (λ b. not (is_line_feed b)) w ws refl (words_pass is_visible (λ b. not (is_line_feed b)) (λ b y. seen_other b 10 (omega arith) y) (w ∷ ws) (text_line-seen (w ∷ ws) both.0).bytes) in
    let cut : slice_split is_line_feed (flat_map line_text ((w ∷ ws) ∷ ls)) ≡ line ∷ slice_split is_line_feed more = split-line_text w ws more feedless in
    let groups : all_joined (slice_split is_line_feed (flat_map line_text ((w ∷ ws) ∷ ls))) ≡ (line ∷ []) ∷ all_joined (slice_split is_line_feed more) = ap all_joined cut ∙ all_joined-first line (slice_split is_line_feed more) is.stops in
    record {
      lines = λ number. rw (groups, is.cut) (λ i. line_at-told number w ws i ++ rest.lines (number + 1) i);
      readable = ap (list_all is_readable) cut ∙ and_from (is_readable line) _ is.readable rest.readable;
      closed = ap (list_all is_closed) groups ∙ and_from (is_closed (line ∷ [])) _ is.closed rest.closed;
    }

-- a text is read back
pub lines_of-text : (ls : List (List (List ℕ))) → list_all is_text_line ls ≡ true → lines_of (flat_map line_text ls) ≡ lines_told 1 ls
unfolding lines_of
lines_of-text ls h = (text_read ls h).lines 1

-- and is clean
pub is_clean-text : (ls : List (List (List ℕ))) → list_all is_text_line ls ≡ true → is_clean (flat_map line_text ls) ≡ true
unfolding is_clean
is_clean-text ls h = and_from _ _ (text_read ls h).readable (text_read ls h).closed

-- ---- its words are short where those written are

line_short : (number : ℕ) (ws : List (List ℕ)) → list_any is_long ws ≡ false → list_any has_long_word (if is_comment ws then [] else record { number = number; words = ws } ∷ []) ≡ false
line_short number ws h =
    elim (is_comment ws) as (λ t. list_any has_long_word (if t then [] else record { number = number; words = ws } ∷ []) ≡ false) [
      | true ↦ refl
      | false ↦ or_from (list_any is_long ws) false h refl
    ]

told-short : (number : ℕ) (ls : List (List (List ℕ))) → list_any (list_any is_long) ls ≡ false → list_any has_long_word (lines_told number ls) ≡ false
told-short number [] h = refl
told-short number (ws ∷ ls) h =
    let both = or_parts (list_any is_long ws) (list_any (list_any is_long) ls) h in
    list_any-append has_long_word (if is_comment ws then [] else record { number = number; words = ws } ∷ []) (lines_told (number + 1) ls)
    ∙ or_from _ _ (line_short number ws both.0) (told-short (number + 1) ls both.1)

-- a text has no fault within the limits
pub lex_fault-text : (limit : ℕ) (ls : List (List (List ℕ))) → list_all is_text_line ls ≡ true → list_any (list_any is_long) ls ≡ false → length (flat_map line_text ls) ≤ limit → lex_fault limit (flat_map line_text ls) ≡ None
unfolding is_within
lex_fault-text limit ls h short fits =
    let text = flat_map line_text ls in
    let words : list_any has_long_word (lines_of text) ≡ false = ap (list_any has_long_word) (lines_of-text ls h) ∙ told-short 1 ls short in
    (no_fault_is_clean limit text).1 (and_from (nat_le (length text) limit) _ (le-leb (length text) limit fits) (not_from_false _ words), is_clean-text ls h)

-- ---- without comment lines

pub uncommented : (number : ℕ) (ls : List (List (List ℕ))) → list_all is_written_line ls ≡ true → lines_told number ls ≡ lines_from number ls
uncommented number [] h = refl
uncommented number (ws ∷ ls) h =
    let both = and_parts (is_written_line ws) (list_all is_written_line ls) h in
    ap (λ t. (if t then [] else record { number = number; words = ws } ∷ []) ++ lines_told (number + 1) ls) (written-uncommented ws both.0)
    ∙ ap (λ ms. record { number = number; words = ws } ∷ ms) (uncommented (number + 1) ls both.1)

text_lines : (ls : List (List (List ℕ))) → list_all is_written_line ls ≡ true → list_all is_text_line ls ≡ true
unfolding is_text_line
text_lines ls h = all-weaker is_written_line is_text_line (λ ws w. or_left (is_written_line ws) _ w) ls h

-- lines that were written are read back
pub lines_of-written : (ls : List (List (List ℕ))) → list_all is_written_line ls ≡ true → lines_of (flat_map line_text ls) ≡ lines_from 1 ls
lines_of-written ls h = lines_of-text ls (text_lines ls h) ∙ uncommented 1 ls h

-- and are clean
pub is_clean-written : (ls : List (List (List ℕ))) → list_all is_written_line ls ≡ true → is_clean (flat_map line_text ls) ≡ true
is_clean-written ls h = is_clean-text ls (text_lines ls h)
