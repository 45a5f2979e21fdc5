-- The end of a line: its last byte, and that a line without a comment that doesn't end in `\` is its own text.
use Rattle.std.proofs.Common.{◌≡◌, ℕ, ◌-◌, true, false, not, ◌&&◌, ◌==◌, List, [], ◌∷◌, ◌++◌, length, refl, ap, sym, ◌∙◌, arith, suc}
use Rattle.std.specs.Prelude.{nat_lt, slice_index}
use Rattle.std.specs.List.{list_all}
use Rattle.std.proofs.lemmas.Bool.{cond-false, and_parts, and_left, lt-ltb, or_from, not-true}
use Rattle.std.proofs.lemmas.List.{append-nil}
use Rattle.mv_base.specs.Names.{ends_with}
use Rattle.mv_lex.specs.Lines.{is_hash, has_hash, is_line_end, is_empty, tail_of, before_tail, certain, joins, text_of, texts}
use Rattle.mv_lex.proofs.Tails.{before_tail-tail, tail_of-skip, certain-clear}
use Rattle.mv_lex.proofs.After.{joins-clear}

-- ---- the last byte

pub ends_with-skip : (e b c : ℕ) (bs : List ℕ) → ends_with e (b ∷ c ∷ bs) ≡ ends_with e (c ∷ bs)
ends_with-skip e b c bs =
    let n : length (b ∷ c ∷ bs) - 1 ≡ suc (length (c ∷ bs) - 1) = omega arith in
    let some : nat_lt 0 (length (b ∷ c ∷ bs)) ≡ true = lt-ltb 0 (length (b ∷ c ∷ bs)) (omega arith) in
    let more : nat_lt 0 (length (c ∷ bs)) ≡ true = lt-ltb 0 (length (c ∷ bs)) (omega arith) in
    let last : slice_index (b ∷ c ∷ bs) (length (b ∷ c ∷ bs) - 1) ≡ slice_index (c ∷ bs) (length (c ∷ bs) - 1) = ap (slice_index (b ∷ c ∷ bs)) n in
    ap (λ t. t && (slice_index (b ∷ c ∷ bs) (length (b ∷ c ∷ bs) - 1) == e)) some ∙ (ap (λ k. k == e) last ∙ sym (ap (λ t. t && (slice_index (c ∷ bs) (length (c ∷ bs) - 1) == e)) more))

-- what stands before a byte doesn't matter to the end
pub ends_with-behind : (e : ℕ) (xs : List ℕ) (c : ℕ) (bs : List ℕ) → ends_with e (xs ++ c ∷ bs) ≡ ends_with e (c ∷ bs)
ends_with-behind e [] c bs = refl
ends_with-behind e (x ∷ []) c bs = ends_with-skip e x c bs
ends_with-behind e (x ∷ y ∷ xs) c bs = ends_with-skip e x y (xs ++ c ∷ bs) ∙ ends_with-behind e (y ∷ xs) c bs

-- ---- the tail

is_line_end-other : (b : ℕ) (bs : List ℕ) → not (b == 13) ≡ true → is_line_end (b ∷ bs) ≡ false
is_line_end-other b [] h = not-true (b == 13) h
is_line_end-other b (c ∷ bs) h = refl

tail_of-none : (line : List ℕ) → list_all (λ b. not (b == 13)) line ≡ true → ends_with 92 line ≡ false → tail_of line ≡ []
tail_of-none [] h e = refl
tail_of-none (b ∷ []) h e = cond-false ((b == 92) && true) _ _ (and_left (b == 92) true e)
tail_of-none (b ∷ c ∷ bs) h e =
    let rest = (and_parts (not (b == 13)) (list_all (λ x. not (x == 13)) (c ∷ bs)) h).1 in
    let first = (and_parts (not (c == 13)) (list_all (λ x. not (x == 13)) bs) rest).0 in
    tail_of-skip b (c ∷ bs) (is_line_end-other c bs first) ∙ tail_of-none (c ∷ bs) rest (sym (ends_with-skip 92 b c bs) ∙ e)

-- ---- the text

none_hash : (line : List ℕ) → list_all (λ b. not (is_hash b)) line ≡ true → has_hash line ≡ false
none_hash [] h = refl
none_hash (b ∷ line) h =
    let both = and_parts (not (is_hash b)) (list_all (λ c. not (is_hash c)) line) h in
    or_from (is_hash b) (has_hash line) (not-true (is_hash b) both.0) (none_hash line both.1)

-- a line without its line feed: it has no comment, joins no line, and is its own text
pub record IsOwnText (line : List ℕ) : Type 0 where
  pub clear : has_hash line ≡ false
  pub stops : joins line ≡ false
  pub text : texts (line ∷ []) ≡ line

pub own_text : (line : List ℕ) → list_all (λ b. not (is_hash b)) line ≡ true → list_all (λ b. not (b == 13)) line ≡ true → ends_with 92 line ≡ false → IsOwnText line
own_text line none returns ends =
    let clear = none_hash line none in
    let tail = tail_of-none line returns ends in
    let stops : joins line ≡ false = joins-clear line clear ∙ ap (λ t. not (is_empty t)) tail in
    let front : before_tail line ≡ line = sym (append-nil (before_tail line)) ∙ (ap (λ t. before_tail line ++ t) (sym tail) ∙ before_tail-tail line) in
    record {
      clear = clear;
      stops = stops;
      text = append-nil (text_of line) ∙ (ap (λ t. certain line ++ t) (cond-false (joins line) _ _ stops) ∙ (append-nil (certain line) ∙ (certain-clear line clear ∙ front)));
    }
