-- Bytes without a fault are those that are clean within the limits: byte by byte, in both directions.
use Rattle.std.proofs.Common.{◌≡◌, ℕ, ◌+◌, ◌≤◌, ◌<◌, Bool, true, false, not, ◌&&◌, ◌||◌, List, [], ◌∷◌, ◌++◌, length, Option, Some, None, if◌then◌else◌, refl, ap, sym, ◌∙◌, ◌==◌, subst, arith, length-append, append_assoc, ⊎_elim}
use Rattle.std.specs.Prelude.{nat_le, ◌↔◌}
use Rattle.std.specs.List.{list_all, list_any, slice_split}
use Rattle.std.specs.Option.{option_or}
use Rattle.std.specs.Bool.{IsTrue}
use Rattle.std.proofs.lemmas.Bool.{cases_Bool, cond-true, cond-false, leb-true, leb-false, le-leb, lt-leb, not-true, not-false, and_parts, and_from, or_left, or_right, or_from, false≢true, eqb-true, not_from_false, not_from_true}
use Rattle.std.proofs.Math.Bool.{or-false, and-true}
use Rattle.std.proofs.lemmas.List.{append-nil}
use Rattle.std.proofs.lemmas.List.Folds.{list_any-append}
use Rattle.mv_base.proofs.Lists.{list_all-push}
use Rattle.mv_lex.specs.declared.fault.LexFault.TheVariants.{BadByte, LongWord, OpenBracket}
use Rattle.mv_lex.specs.declared.parts.Place.{Place}
use Rattle.mv_lex.specs.Words.{Cut, cut_of, is_long, has_long, waits}
use Rattle.mv_lex.specs.Lines.{is_acceptable, is_line_feed, is_hash, has_hash, joins, tail_of, texts, joined, unended, ended_lines, open_line, all_joined, words_of, line_at, numbered, lines_of, is_readable, is_closed, is_clean, has_long_word, is_within, line_number, in_comment, open_text, text_with, ends_with_byte, words_fault, fault_at, first_fault, end_fault, lex_fault}
use Rattle.mv_lex.specs.Reading.{place_of, place_of_tail, text_behind}
use Rattle.mv_lex.specs.Steps.{with_bytes, held, blank_at, is_backslash}
use Rattle.mv_lex.proofs.Cuts.{split_all, closed-end, closed-more, open_piece-end, open_piece-more}
use Rattle.mv_lex.proofs.Cutting.{cut_of-append, with_bytes-append}
use Rattle.mv_lex.proofs.Groups.{joined-more, unended-more, joined-end, unended-end}
use Rattle.mv_lex.proofs.Longs.{IsKnown-bytes, IsKnown-cut, has_long-front, has_long-blank, has_long-finished}
use Rattle.mv_lex.proofs.Tails.{has_hash-push, held-tail, before_hash-behind, before_hash-begins, before_hash-clear, place_of-clear, tail-backslash, backslash-tail}
use Rattle.mv_lex.proofs.After.{none_else, short_words, acceptable-feed, ends-other, feed_ends, feed_goes, joins-commented, texts-push, text-ends, text-comment, text_with-feed, text_with-other, open_text-place, open_text-comment, open_text-hash, open_text-return, open_text-solid, open_text-next, open_text-new}

-- neither of two faults is there if the first of them isn't
pub option_or-none : {A : Type 0} (a b : Option A) → option_or a b ≡ None → (a ≡ None) × (b ≡ None)
option_or-none None b e = (refl, e)
option_or-none (Some x) b e = cc

option_or-both : {A : Type 0} (a b : Option A) → a ≡ None → b ≡ None → option_or a b ≡ None
option_or-both None b e h = h
option_or-both (Some x) b e h = cc

-- ---- where a text ends

-- no word of it is too long, and no bracket is open
abbrev pub ends_well : List ℕ → Bool
ends_well text = not (has_long true (cut_of text)) && not (waits (cut_of text).kind)

-- the same of joined lines
abbrev pub group_ends_well : List (List ℕ) → Bool
group_ends_well group = ends_well (texts group)

well_words : (line : ℕ) (text : List ℕ) → words_fault line true (cut_of text) ≡ None → ends_well text ≡ true
well_words line text e =
    let long = none_else (has_long true (cut_of text)) (LongWord line) _ e in
    let unclosed = none_else (waits (cut_of text).kind) (OpenBracket line) None long.1 in
    and_from _ _ (not_from_false (has_long true (cut_of text)) long.0) (not_from_false (waits (cut_of text).kind) unclosed.0)

words_well : (line : ℕ) (text : List ℕ) → ends_well text ≡ true → words_fault line true (cut_of text) ≡ None
words_well line text e =
    let both = and_parts (not (has_long true (cut_of text))) (not (waits (cut_of text).kind)) e in
    cond-false (has_long true (cut_of text)) _ _ (not-true (has_long true (cut_of text)) both.0) ∙ cond-false (waits (cut_of text).kind) _ _ (not-true (waits (cut_of text).kind) both.1)

-- then no word is too long while it goes on
short_well : (text : List ℕ) → ends_well text ≡ true → has_long false (cut_of text) ≡ false
short_well text e = short_words 0 true (cut_of text) (words_well 0 text e)

words_short : (line : ℕ) (text : List ℕ) → has_long false (cut_of text) ≡ false → words_fault line false (cut_of text) ≡ None
words_short line text e = cond-false (has_long false (cut_of text)) _ _ e

-- ---- bytes without a fault so far

-- each line that has ended is readable, and each joined one ends well; the open one is readable and has no word too long,
-- and ends well where a comment has begun
pub record IsFine (bytes : List ℕ) : Type 0 where
  pub ended : list_all is_readable (ended_lines bytes) ≡ true
  pub here : is_readable (open_line bytes) ≡ true
  pub closed : list_all group_ends_well (joined (ended_lines bytes)) ≡ true
  pub commented : in_comment bytes ≡ true → ends_well (text_behind bytes) ≡ true
  pub short : has_long false (cut_of (open_text bytes)) ≡ false

-- a byte without a fault outside a comment
pub record IsGood (bytes : List ℕ) (b : ℕ) : Type 0 where
  pub acceptable : is_acceptable b ≡ true
  pub words : words_fault (line_number bytes) (ends_with_byte bytes b) (cut_of (text_with bytes b)) ≡ None

good_byte : (limit : ℕ) (bytes : List ℕ) (b : ℕ) → fault_at limit bytes b ≡ None → in_comment bytes ≡ false → IsGood bytes b
unfolding fault_at
good_byte limit bytes b told e =
    let within = (none_else (nat_le limit (length bytes)) _ _ told).1 in
    let clear = sym (cond-false (in_comment bytes) None _ e) ∙ within in
    let good = none_else (not (is_acceptable b)) (BadByte (line_number bytes) b) _ clear in
    record { acceptable = not-false (is_acceptable b) good.0; words = good.1 }

byte_good : (limit : ℕ) (bytes : List ℕ) (b : ℕ) → length bytes < limit → (in_comment bytes ≡ false → IsGood bytes b) → fault_at limit bytes b ≡ None
unfolding fault_at
byte_good limit bytes b within good =
    cond-false (nat_le limit (length bytes)) _ _ (lt-leb limit (length bytes) within)
    ∙ ⊎_elim
    (λ (e : in_comment bytes ≡ true). cond-true (in_comment bytes) _ _ e)
    (λ (e : in_comment bytes ≡ false). cond-false (in_comment bytes) _ _ e ∙ (cond-false (not (is_acceptable b)) _ _ (not_from_true (is_acceptable b) (good e).acceptable) ∙ (good e).words))
    (cases_Bool (in_comment bytes))

all_more : {A : Type 0} (p : A → Bool) (xs : List A) (x : A) → list_all p xs ≡ true → p x ≡ true → list_all p (xs ++ x ∷ []) ≡ true
all_more p xs x all one = list_all-push p xs x ∙ and_from (list_all p xs) (p x) all one

all_parts : {A : Type 0} (p : A → Bool) (xs : List A) (x : A) → list_all p (xs ++ x ∷ []) ≡ true → (list_all p xs ≡ true) × (p x ≡ true)
all_parts p xs x e = and_parts (list_all p xs) (p x) (sym (list_all-push p xs x) ∙ e)

-- ---- a line feed

group_is : (bytes : List ℕ) → group_ends_well (unended (ended_lines bytes) ++ open_line bytes ∷ []) ≡ ends_well (open_text bytes)
group_is bytes = ap ends_well (texts-push (unended (ended_lines bytes)) (open_line bytes))

-- the words at it, by whether it ends the joined line
feed_words : (bytes : List ℕ) (b : ℕ) (ends : Bool) → is_line_feed b ≡ true → ends_with_byte bytes b ≡ ends → words_fault (line_number bytes) (ends_with_byte bytes b) (cut_of (text_with bytes b)) ≡ words_fault (line_number bytes) ends (cut_of (open_text bytes))
feed_words bytes b ends f e =
    ap (λ t. words_fault (line_number bytes) t (cut_of (text_with bytes b))) e ∙ ap (λ t. words_fault (line_number bytes) ends (cut_of t)) (text_with-feed bytes b f)

well_at_feed : (limit : ℕ) (bytes : List ℕ) (b : ℕ) → IsFine bytes → fault_at limit bytes b ≡ None → is_line_feed b ≡ true → joins (open_line bytes) ≡ false → ends_well (open_text bytes) ≡ true
well_at_feed limit bytes b h told f stops =
    ⊎_elim
    (λ (e : in_comment bytes ≡ true). ap ends_well (text-ends bytes stops) ∙ h.commented e)
    (λ (e : in_comment bytes ≡ false). well_words (line_number bytes) (open_text bytes) (sym (feed_words bytes b true f (feed_ends bytes b f stops)) ∙ (good_byte limit bytes b told e).words))
    (cases_Bool (in_comment bytes))

fine_feed : (limit : ℕ) (bytes : List ℕ) (b : ℕ) → IsFine bytes → fault_at limit bytes b ≡ None → is_line_feed b ≡ true → IsFine (bytes ++ b ∷ [])
unfolding cut_of
fine_feed limit bytes b h told f =
    let line = open_line bytes in
    let lines = closed-end is_line_feed bytes b f in
    let nothing = open_piece-end is_line_feed bytes b f in
    record {
      ended = rw lines (all_more is_readable (ended_lines bytes) line h.ended h.here);
      here = rw nothing refl;
      closed = rw lines (⊎_elim
          (λ (goes : joins line ≡ true). rw (joined-more (ended_lines bytes) line goes) h.closed)
          (λ (stops : joins line ≡ false). rw (joined-end (ended_lines bytes) line stops) (all_more group_ends_well (joined (ended_lines bytes)) (unended (ended_lines bytes) ++ line ∷ []) h.closed (group_is bytes ∙ well_at_feed limit bytes b h told f stops)))
          (cases_Bool (joins line)));
      commented = λ e. absurd (false≢true (sym (ap has_hash nothing) ∙ e));
      short = ⊎_elim
          (λ (goes : joins line ≡ true). ap (λ t. has_long false (cut_of t)) (open_text-next bytes b f goes) ∙ h.short)
          (λ (stops : joins line ≡ false). ap (λ t. has_long false (cut_of t)) (open_text-new bytes b f stops))
          (cases_Bool (joins line));
    }

-- what was fine behind a byte was so before it, and the byte has no fault
pub record WasFine (bytes : List ℕ) (b : ℕ) : Type 0 where
  pub fine : IsFine bytes
  pub good : in_comment bytes ≡ false → IsGood bytes b

feed_fine : (bytes : List ℕ) (b : ℕ) → IsFine (bytes ++ b ∷ []) → is_line_feed b ≡ true → WasFine bytes b
feed_fine bytes b h f =
    let line = open_line bytes in
    let lines = closed-end is_line_feed bytes b f in
    let read = all_parts is_readable (ended_lines bytes) line (sym (ap (list_all is_readable) lines) ∙ h.ended) in
    let closed : list_all group_ends_well (joined (ended_lines bytes ++ line ∷ [])) ≡ true = sym (ap (λ ls. list_all group_ends_well (joined ls)) lines) ∙ h.closed in
    ⊎_elim
    (λ (goes : joins line ≡ true). (
    let short : has_long false (cut_of (open_text bytes)) ≡ false = sym (ap (λ t. has_long false (cut_of t)) (open_text-next bytes b f goes)) ∙ h.short in
    record {
      fine = record {
        ended = read.0;
        here = read.1;
        closed = sym (ap (list_all group_ends_well) (joined-more (ended_lines bytes) line goes)) ∙ closed;
        commented = λ e. absurd (false≢true (sym (joins-commented line e) ∙ goes));
        short = short;
      };
      good = λ e. record { acceptable = acceptable-feed b f; words = feed_words bytes b false f (feed_goes bytes b f goes) ∙ words_short (line_number bytes) (open_text bytes) short };
    }
    ))
    (λ (stops : joins line ≡ false). (
    let groups = all_parts group_ends_well (joined (ended_lines bytes)) (unended (ended_lines bytes) ++ line ∷ []) (sym (ap (list_all group_ends_well) (joined-end (ended_lines bytes) line stops)) ∙ closed) in
    let well : ends_well (open_text bytes) ≡ true = sym (group_is bytes) ∙ groups.1 in
    record {
      fine = record {
        ended = read.0;
        here = read.1;
        closed = groups.0;
        commented = λ e. sym (ap ends_well (text-ends bytes stops)) ∙ well;
        short = short_well (open_text bytes) well;
      };
      good = λ e. record { acceptable = acceptable-feed b f; words = feed_words bytes b true f (feed_ends bytes b f stops) ∙ words_well (line_number bytes) (open_text bytes) well };
    }
    ))
    (cases_Bool (joins line))

-- ---- any other byte

-- a comment goes on, or begins
commented_more : (bytes : List ℕ) (b : ℕ) → is_line_feed b ≡ false → in_comment (bytes ++ b ∷ []) ≡ (in_comment bytes || is_hash b)
commented_more bytes b n = ap has_hash (open_piece-more is_line_feed bytes b n) ∙ has_hash-push (open_line bytes) b

-- the line is readable with it where it is so before it, and the byte is acceptable
readable_more : (line : List ℕ) (b : ℕ) → has_hash line ≡ false → is_readable (line ++ b ∷ []) ≡ (list_all is_acceptable line && is_acceptable b)
readable_more line b e =
    ⊎_elim
    (λ (hash : is_hash b ≡ true). ap (list_all is_acceptable) (before_hash-begins line b e hash) ∙ (sym (and-true (list_all is_acceptable line)) ∙ ap (λ t. list_all is_acceptable line && t) (sym (acceptable_hash b hash))))
    (λ (clear : is_hash b ≡ false). ap (list_all is_acceptable) (before_hash-clear (line ++ b ∷ []) (has_hash-push line b ∙ or_from (has_hash line) (is_hash b) e clear)) ∙ list_all-push is_acceptable line b)
    (cases_Bool (is_hash b)) where
      acceptable_hash : (b : ℕ) → is_hash b ≡ true → is_acceptable b ≡ true
      acceptable_hash b hash = let P : ℕ → Type 0 = λ n. is_acceptable n ≡ true in subst P (sym (eqb-true b 35 hash)) refl

readable_is : (line : List ℕ) → has_hash line ≡ false → is_readable line ≡ list_all is_acceptable line
readable_is line e = ap (list_all is_acceptable) (before_hash-clear line e)

-- the words at it, by whether it begins a comment
byte_words : (bytes : List ℕ) (b : ℕ) (ends : Bool) → is_line_feed b ≡ false → is_hash b ≡ ends → words_fault (line_number bytes) (ends_with_byte bytes b) (cut_of (text_with bytes b)) ≡ words_fault (line_number bytes) ends (cut_of (open_text (bytes ++ b ∷ [])))
byte_words bytes b ends n e =
    ap (λ t. words_fault (line_number bytes) t (cut_of (text_with bytes b))) (ends-other bytes b n ∙ e) ∙ ap (λ t. words_fault (line_number bytes) ends (cut_of t)) (text_with-other bytes b n)

-- in a comment the text is that of the line
text_commented : (bytes : List ℕ) → in_comment bytes ≡ true → open_text bytes ≡ text_behind bytes
text_commented bytes e = text-ends bytes (joins-commented (open_line bytes) e)

fine_byte : (limit : ℕ) (bytes : List ℕ) (b : ℕ) → IsFine bytes → fault_at limit bytes b ≡ None → is_line_feed b ≡ false → IsFine (bytes ++ b ∷ [])
fine_byte limit bytes b h told n =
    let line = open_line bytes in
    let lines = closed-more is_line_feed bytes b n in
    let longer = open_piece-more is_line_feed bytes b n in
    let good = λ (e : in_comment bytes ≡ false). good_byte limit bytes b told e in
    record {
      ended = rw lines h.ended;
      here = ap is_readable longer ∙ ⊎_elim
          (λ (e : in_comment bytes ≡ true). ap (list_all is_acceptable) (before_hash-behind line b e) ∙ h.here)
          (λ (e : in_comment bytes ≡ false). readable_more line b e ∙ and_from _ _ (sym (readable_is line e) ∙ h.here) (good e).acceptable)
          (cases_Bool (in_comment bytes));
      closed = rw lines h.closed;
      commented = λ later. ⊎_elim
          (λ (e : in_comment bytes ≡ true). ap ends_well (text-comment bytes b e n) ∙ h.commented e)
          (λ (e : in_comment bytes ≡ false). (
          let hash : is_hash b ≡ true = sym (ap (λ t. t || is_hash b) e) ∙ (sym (commented_more bytes b n) ∙ later) in
          sym (ap ends_well (text_commented (bytes ++ b ∷ []) later)) ∙ well_words (line_number bytes) (open_text (bytes ++ b ∷ [])) (sym (byte_words bytes b true n hash) ∙ (good e).words)
          ))
          (cases_Bool (in_comment bytes));
      short = ⊎_elim
          (λ (e : in_comment bytes ≡ true). ap (λ t. has_long false (cut_of t)) (open_text-comment bytes b e n) ∙ h.short)
          (λ (e : in_comment bytes ≡ false). sym (ap (λ t. has_long false (cut_of t)) (text_with-other bytes b n)) ∙ short_words (line_number bytes) (ends_with_byte bytes b) (cut_of (text_with bytes b)) (good e).words)
          (cases_Bool (in_comment bytes));
    }

-- no word is too long before a byte where none is with what the byte settles
settled_short : (bytes more text : List ℕ) → text ≡ text_behind bytes ++ (tail_of (open_line bytes) ++ more) → in_comment bytes ≡ false → has_long false (cut_of text) ≡ false → has_long false (cut_of (open_text bytes)) ≡ false
settled_short bytes more text is e short =
    let cut : Cut = cut_of (text_behind bytes) in
    let place : Place = place_of_tail (tail_of (open_line bytes)) in
    let tail = held-tail (open_line bytes) in
    let known = IsKnown-cut (text_behind bytes) in
    let whole : cut_of text ≡ with_bytes (with_bytes cut (held place)) more = ap cut_of is ∙ (cut_of-append (text_behind bytes) (tail_of (open_line bytes) ++ more) ∙ (with_bytes-append cut (tail_of (open_line bytes)) more ∙ ap (λ bs. with_bytes (with_bytes cut bs) more) (sym tail))) in
    let front = has_long-front (with_bytes cut (held place)) more (IsKnown-bytes cut (held place) known) (sym (ap (has_long false) whole) ∙ short) in
    let here : cut_of (open_text bytes) ≡ with_bytes cut (blank_at place) = ap cut_of (open_text-place bytes) ∙ (cut_of-append (text_behind bytes) (blank_at (place_of (open_line bytes))) ∙ ap (λ p. with_bytes cut (blank_at p)) (place_of-clear (open_line bytes) e)) in
    ap (has_long false) here ∙ has_long-blank cut place known front

short_before : (bytes : List ℕ) (b : ℕ) → is_line_feed b ≡ false → in_comment bytes ≡ false → has_long false (cut_of (open_text (bytes ++ b ∷ []))) ≡ false → has_long false (cut_of (open_text bytes)) ≡ false
short_before bytes b n e short =
    ⊎_elim
    (λ (hash : is_hash b ≡ true). settled_short bytes [] (open_text (bytes ++ b ∷ [])) (open_text-hash bytes b e n hash ∙ ap (λ bs. text_behind bytes ++ bs) (sym (append-nil (tail_of (open_line bytes))))) e short)
    (λ (clear : is_hash b ≡ false). ⊎_elim
    (λ (returns : ((b == 13) && is_backslash (place_of_tail (tail_of (open_line bytes)))) ≡ true). (
    let both = and_parts (b == 13) (is_backslash (place_of_tail (tail_of (open_line bytes)))) returns in
    let there = tail-backslash (open_line bytes) both.1 in
    let same : open_text bytes ≡ text_behind bytes ++ 32 ∷ [] = open_text-place bytes ∙ ap (λ p. text_behind bytes ++ blank_at p) (place_of-clear (open_line bytes) e ∙ ap place_of_tail there) in
    ap (λ t. has_long false (cut_of t)) (same ∙ sym (open_text-return bytes b e n both.0 there)) ∙ short
    ))
    (λ (goes : ((b == 13) && is_backslash (place_of_tail (tail_of (open_line bytes)))) ≡ false). (
    let alone = λ (c : (b == 13) ≡ true) (t : tail_of (open_line bytes) ≡ 92 ∷ []). false≢true (sym goes ∙ and_from (b == 13) _ c (backslash-tail (open_line bytes) t)) in
    settled_short bytes ((if b == 92 then 32 else b) ∷ []) (open_text (bytes ++ b ∷ [])) (open_text-solid bytes b e n clear alone) e short
    ))
    (cases_Bool ((b == 13) && is_backslash (place_of_tail (tail_of (open_line bytes))))))
    (cases_Bool (is_hash b))

byte_fine : (bytes : List ℕ) (b : ℕ) → IsFine (bytes ++ b ∷ []) → is_line_feed b ≡ false → WasFine bytes b
byte_fine bytes b h n =
    let line = open_line bytes in
    let lines = closed-more is_line_feed bytes b n in
    let here : is_readable (line ++ b ∷ []) ≡ true = sym (ap is_readable (open_piece-more is_line_feed bytes b n)) ∙ h.here in
    let read = λ (e : in_comment bytes ≡ false). and_parts (list_all is_acceptable line) (is_acceptable b) (sym (readable_more line b e) ∙ here) in
    record {
      fine = record {
        ended = sym (ap (list_all is_readable) lines) ∙ h.ended;
        here = ⊎_elim
            (λ (e : in_comment bytes ≡ true). sym (ap (list_all is_acceptable) (before_hash-behind line b e)) ∙ here)
            (λ (e : in_comment bytes ≡ false). readable_is line e ∙ (read e).0)
            (cases_Bool (in_comment bytes));
        closed = sym (ap (λ ls. list_all group_ends_well (joined ls)) lines) ∙ h.closed;
        commented = λ e. sym (ap ends_well (text-comment bytes b e n)) ∙ h.commented (commented_more bytes b n ∙ or_left (in_comment bytes) (is_hash b) e);
        short = ⊎_elim
            (λ (e : in_comment bytes ≡ true). sym (ap (λ t. has_long false (cut_of t)) (open_text-comment bytes b e n)) ∙ h.short)
            (λ (e : in_comment bytes ≡ false). short_before bytes b n e h.short)
            (cases_Bool (in_comment bytes));
      };
      good = λ e. record {
        acceptable = (read e).1;
        words = ⊎_elim
            (λ (hash : is_hash b ≡ true). (
            let later = commented_more bytes b n ∙ or_right (in_comment bytes) (is_hash b) hash in
            byte_words bytes b true n hash ∙ words_well (line_number bytes) (open_text (bytes ++ b ∷ [])) (ap ends_well (text_commented (bytes ++ b ∷ []) later) ∙ h.commented later)
            ))
            (λ (clear : is_hash b ≡ false). byte_words bytes b false n clear ∙ words_short (line_number bytes) (open_text (bytes ++ b ∷ [])) h.short)
            (cases_Bool (is_hash b));
      };
    }

-- ---- all bytes

fine_behind : (limit : ℕ) (seen bytes : List ℕ) → IsFine seen → first_fault limit seen bytes ≡ None → IsFine (seen ++ bytes)
fine_behind limit seen [] h e = rw (append-nil seen) h
fine_behind limit seen (b ∷ bytes) h e =
    let both = option_or-none (fault_at limit seen b) (first_fault limit (seen ++ b ∷ []) bytes) e in
    let next : IsFine (seen ++ b ∷ []) = ⊎_elim (fine_feed limit seen b h both.0) (fine_byte limit seen b h both.0) (cases_Bool (is_line_feed b)) in
    subst IsFine (append_assoc seen (b ∷ []) bytes) (fine_behind limit (seen ++ b ∷ []) bytes next both.1)

fine_before : (limit : ℕ) (seen bytes : List ℕ) → IsFine (seen ++ bytes) → length (seen ++ bytes) ≤ limit → IsFine seen × (first_fault limit seen bytes ≡ None)
fine_before limit seen [] h within = (subst IsFine (append-nil seen) h, refl)
fine_before limit seen (b ∷ bytes) h within =
    let same = append_assoc seen (b ∷ []) bytes in
    let rest = fine_before limit (seen ++ b ∷ []) bytes (subst IsFine (sym same) h) (rw same within) in
    let was : WasFine seen b = ⊎_elim (feed_fine seen b rest.0) (byte_fine seen b rest.0) (cases_Bool (is_line_feed b)) in
    let size = length-append seen (b ∷ bytes) in
    let below : length seen < limit = omega arith in
    (was.fine, option_or-both (fault_at limit seen b) (first_fault limit (seen ++ b ∷ []) bytes) (byte_good limit seen b below was.good) rest.1)

fine_nothing : IsFine []
unfolding cut_of
fine_nothing = record { ended = refl; here = refl; closed = refl; commented = λ e. absurd (false≢true e); short = refl }

-- ---- the end

well_at_end : (bytes : List ℕ) → IsFine bytes → end_fault bytes ≡ None → ends_well (open_text bytes) ≡ true
unfolding end_fault
well_at_end bytes h told =
    ⊎_elim
    (λ (e : in_comment bytes ≡ true). ap ends_well (text_commented bytes e) ∙ h.commented e)
    (λ (e : in_comment bytes ≡ false). well_words (line_number bytes) (open_text bytes) (sym (cond-false (in_comment bytes) None _ e) ∙ told))
    (cases_Bool (in_comment bytes))

end_well : (bytes : List ℕ) → ends_well (open_text bytes) ≡ true → end_fault bytes ≡ None
unfolding end_fault
end_well bytes well =
    ⊎_elim
    (λ (e : in_comment bytes ≡ true). cond-true (in_comment bytes) _ _ e)
    (λ (e : in_comment bytes ≡ false). cond-false (in_comment bytes) _ _ e ∙ words_well (line_number bytes) (open_text bytes) well)
    (cases_Bool (in_comment bytes))

-- all joined lines end well where those that have ended do, and the open one does
all_groups : (bytes : List ℕ) → list_all group_ends_well (all_joined (slice_split is_line_feed bytes)) ≡ (list_all group_ends_well (joined (ended_lines bytes)) && ends_well (open_text bytes))
unfolding cut_of
all_groups bytes =
    let line = open_line bytes in
    let lines = ended_lines bytes in
    let groups = joined lines ++ (unended lines ++ line ∷ []) ∷ [] in
    let cut : all_joined (slice_split is_line_feed bytes) ≡ all_joined (lines ++ line ∷ []) = ap all_joined (split_all is_line_feed bytes) in
    let whole : list_all group_ends_well groups ≡ (list_all group_ends_well (joined lines) && ends_well (open_text bytes)) = list_all-push group_ends_well (joined lines) (unended lines ++ line ∷ []) ∙ ap (λ t. list_all group_ends_well (joined lines) && t) (group_is bytes) in
    ap (list_all group_ends_well) cut ∙ ⊎_elim
    (λ (goes : joins line ≡ true). ap (list_all group_ends_well) (ap (λ gs. gs ++ unended (lines ++ line ∷ []) ∷ []) (joined-more lines line goes) ∙ ap (λ g. joined lines ++ g ∷ []) (unended-more lines line goes)) ∙ whole)
    (λ (stops : joins line ≡ false). (
    ap (list_all group_ends_well) (ap (λ gs. gs ++ unended (lines ++ line ∷ []) ∷ []) (joined-end lines line stops) ∙ ap (λ g. groups ++ g ∷ []) (unended-end lines line stops))
    ∙ (list_all-push group_ends_well groups [] ∙ (and-true (list_all group_ends_well groups) ∙ whole))
    ))
    (cases_Bool (joins line))

-- they do where no word of the lines is too long and each is closed
long_lines : (number : ℕ) (groups : List (List (List ℕ))) → list_any has_long_word (numbered number groups) ≡ list_any (λ g. has_long true (cut_of (texts g))) groups
long_lines number [] = refl
long_lines number (group ∷ groups) =
    list_any-append has_long_word (line_at number (words_of (texts group))) (numbered (number + length group) groups)
    ∙ (ap (λ t. t || list_any has_long_word (numbered (number + length group) groups)) (one number (words_of (texts group)) ∙ sym (has_long-finished (cut_of (texts group)) (IsKnown-cut (texts group))))
    ∙ ap (λ t. has_long true (cut_of (texts group)) || t) (long_lines (number + length group) groups)) where
      one : (number : ℕ) (words : List (List ℕ)) → list_any has_long_word (line_at number words) ≡ list_any is_long words
      one number [] = refl
      one number (w ∷ ws) = or-false (list_any is_long (w ∷ ws))

groups_well : (groups : List (List (List ℕ))) → list_all group_ends_well groups ≡ (not (list_any (λ g. has_long true (cut_of (texts g))) groups) && list_all is_closed groups)
groups_well [] = refl
groups_well (group ∷ groups) = ap (λ t. group_ends_well group && t) (groups_well groups) ∙ both (has_long true (cut_of (texts group))) _ (is_closed group) _ where
  both : (a b c d : Bool) → ((not a && c) && (not b && d)) ≡ (not (a || b) && (c && d))
  both true b c d = refl
  both false b true d = refl
  both false true false d = refl
  both false false false d = refl

-- ---- the whole

lines_well : (bytes : List ℕ) → (list_all group_ends_well (joined (ended_lines bytes)) && ends_well (open_text bytes)) ≡ (not (list_any has_long_word (lines_of bytes)) && list_all is_closed (all_joined (slice_split is_line_feed bytes)))
unfolding lines_of
lines_well bytes =
    let groups = all_joined (slice_split is_line_feed bytes) in
    sym (all_groups bytes) ∙ (groups_well groups ∙ ap (λ t. not t && list_all is_closed groups) (sym (long_lines 1 groups)))

length-from_first_fault_behind : (limit : ℕ) (seen bytes : List ℕ) → length seen ≤ limit → first_fault limit seen bytes ≡ None → length seen + length bytes ≤ limit
unfolding fault_at
length-from_first_fault_behind limit seen [] h e = omega arith
length-from_first_fault_behind limit seen (b ∷ bytes) h e =
    let both = option_or-none (fault_at limit seen b) (first_fault limit (seen ++ b ∷ []) bytes) e in
    let within = leb-false limit (length seen) (none_else (nat_le limit (length seen)) _ _ both.0).0 in
    let longer : length (seen ++ b ∷ []) ≡ length seen + 1 = length-append seen (b ∷ []) in
    let fits : length (seen ++ b ∷ []) ≤ limit = omega (arith, within, longer) in
    omega (arith, longer, length-from_first_fault_behind limit (seen ++ b ∷ []) bytes fits both.1)

-- bytes without a fault are no more than the limit
pub length-from_first_fault : (limit : ℕ) (bytes : List ℕ) → first_fault limit [] bytes ≡ None → length bytes ≤ limit
length-from_first_fault limit bytes e =
    omega (arith, length-from_first_fault_behind limit [] bytes (omega arith) e)

accepted : (limit : ℕ) (bytes : List ℕ) → lex_fault limit bytes ≡ None → IsTrue (is_within limit bytes) × IsTrue (is_clean bytes)
unfolding is_within is_clean
accepted limit bytes none =
    let told = option_or-none (first_fault limit [] bytes) (end_fault bytes) none in
    let fine = fine_behind limit [] bytes fine_nothing told.0 in
    let lines = and_parts _ _ (sym (lines_well bytes) ∙ and_from _ _ fine.closed (well_at_end bytes fine told.1)) in (
      and_from _ _ (le-leb (length bytes) limit (length-from_first_fault limit bytes told.0)) lines.0,
      and_from _ _ (ap (list_all is_readable) (split_all is_line_feed bytes) ∙ all_more is_readable (ended_lines bytes) (open_line bytes) fine.ended fine.here) lines.1,
    )

accepts : (limit : ℕ) (bytes : List ℕ) → IsTrue (is_within limit bytes) → IsTrue (is_clean bytes) → lex_fault limit bytes ≡ None
unfolding is_within is_clean
accepts limit bytes within clean =
    let size = and_parts (nat_le (length bytes) limit) _ within in
    let read = and_parts (list_all is_readable (slice_split is_line_feed bytes)) (list_all is_closed (all_joined (slice_split is_line_feed bytes))) clean in
    let line = all_parts is_readable (ended_lines bytes) (open_line bytes) (sym (ap (list_all is_readable) (split_all is_line_feed bytes)) ∙ read.0) in
    let groups = and_parts (list_all group_ends_well (joined (ended_lines bytes))) (ends_well (open_text bytes)) (lines_well bytes ∙ and_from _ _ size.1 read.1) in
    let fine : IsFine bytes = record {
      ended = line.0;
      here = line.1;
      closed = groups.0;
      commented = λ e. sym (ap ends_well (text_commented bytes e)) ∙ groups.1;
      short = short_well (open_text bytes) groups.1;
    } in
    option_or-both (first_fault limit [] bytes) (end_fault bytes) (fine_before limit [] bytes fine (leb-true (length bytes) limit size.0)).1 (end_well bytes groups.1)

-- a file has no fault exactly where it is clean within the limits
pub no_fault_is_clean : (limit : ℕ) (bytes : List ℕ) → (lex_fault limit bytes ≡ None) ↔ (IsTrue (is_within limit bytes) × IsTrue (is_clean bytes))
no_fault_is_clean limit bytes = (accepted limit bytes, λ h. accepts limit bytes h.0 h.1)
