-- The lexer's state against the bytes read: one more byte, a piece of bytes, the end.
use Rattle.std.proofs.Common.{◌≡◌, ℕ, ◌+◌, ◌<◌, ◌⊎◌, Bool, true, false, not, ◌&&◌, ◌||◌, ◌==◌, List, [], ◌∷◌, ◌++◌, length, take, drop, Option, Some, None, if◌then◌else◌, refl, ap, sym, ◌∙◌, subst, arith, append_assoc, length-append, get_or, inl, inr, suc, ⊎_elim}
use Rattle.std.specs.Prelude.{nat_le}
use Rattle.std.specs.Option.{option_or}
use Rattle.std.specs.List.{slice_split}
use Rattle.std.proofs.lemmas.List.{append-nil, take-append-drop}
use Rattle.std.proofs.lemmas.List.Concat.{flat_map-append}
use Rattle.std.proofs.lemmas.Bool.{cases_Bool, cond_both, cond-true, cond-false, and_from, and_left, and_right, and_parts, or_right, or_from, not_from_true, not_from_false, eqb-true, false≢true}
use Rattle.std.proofs.Math.Bool.{or-false, or_assoc}
use Rattle.std.proofs.Math.Seq.{drop-cons}
use Rattle.mv_lex.specs.declared.lines.LexLine.{LexLine}
use Rattle.mv_lex.specs.declared.fault.LexFault.{LexFault}
use Rattle.mv_lex.specs.declared.fault.LexFault.TheVariants.{BadByte, LongWord, TooLarge, Memory}
use Rattle.mv_lex.specs.declared.parts.Place.{Place}
use Rattle.mv_lex.specs.declared.parts.Place.TheVariants.{Text, Backslash, Return, Comment}
use Rattle.mv_lex.specs.Words.{Cut, cut_of, finished, has_long}
use Rattle.mv_lex.specs.Lines.{is_line_feed, is_hash, has_hash, is_empty, tail_of, certain, joins, text_of, texts, joined, unended, ended_lines, open_line, words_of, line_at, numbered, all_joined, lines_of, complete, is_acceptable, line_number, in_comment, text_before, open_text, text_with, ends_with_byte, words_fault, fault_at, first_fault, end_fault}
use Rattle.mv_lex.specs.Reading.{Reading, IsAfter, GainsLines, place_of, place_of_tail, text_behind}
use Rattle.mv_lex.specs.Steps.{HasRead, with_byte, with_bytes, long_with, long_with_bytes, held, is_backslash, settled, long_fault, end_fault_of, text_fault, place_fault, fault_now, text_step, new_line, next_line, place_step, stepped, ends_line, ended, blank_at, is_comment, end_now, end_cut}
use Rattle.mv_lex.proofs.Cuts.{split_all, closed-end, closed-more, open_piece-end, open_piece-more}
use Rattle.mv_lex.proofs.Cutting.{cut_of-append, with_bytes-append}
use Rattle.mv_lex.proofs.Tails.{held-tail, place_of-clear, place_of-commented, Stands, whole_certain, stands-commented, stands-hash, stands-return, stands-backslash, stands-other, tail-backslash, backslash-tail}
use Rattle.mv_lex.proofs.Groups.{joined-more, unended-more, joined-end, unended-end, lines_in, lines_in-joined}
use Rattle.mv_lex.proofs.Longs.{IsKnown, IsKnown-cut, has_long-bytes, has_long-front, words_fault-end}

-- ---- the first fault of two lists

option_or-assoc : {A : Type 0} (a b c : Option A) → option_or a (option_or b c) ≡ option_or (option_or a b) c
option_or-assoc None b c = refl
option_or-assoc (Some x) b c = refl

-- it is that of the first list, or else of the second
pub first_fault-append : (limit : ℕ) (seen xs ys : List ℕ) → first_fault limit seen (xs ++ ys) ≡ option_or (first_fault limit seen xs) (first_fault limit (seen ++ xs) ys)
first_fault-append limit seen [] ys = rw (append-nil seen) refl
first_fault-append limit seen (x ∷ xs) ys =
    rw (first_fault-append limit (seen ++ x ∷ []) xs ys, append_assoc seen (x ∷ []) xs) (option_or-assoc (fault_at limit seen x) (first_fault limit (seen ++ x ∷ []) xs) (first_fault limit (seen ++ x ∷ xs) ys))

-- ---- what the open line tells

place-commented : (r : Reading) (bytes : List ℕ) → IsAfter r bytes → in_comment bytes ≡ true → r.place ≡ Comment
place-commented r bytes h e = h.place ∙ place_of-commented (open_line bytes) e

place-clear : (r : Reading) (bytes : List ℕ) → IsAfter r bytes → in_comment bytes ≡ false → r.place ≡ place_of_tail (tail_of (open_line bytes))
place-clear r bytes h e = h.place ∙ place_of-clear (open_line bytes) e

held-clear : (r : Reading) (bytes : List ℕ) → IsAfter r bytes → in_comment bytes ≡ false → held r.place ≡ tail_of (open_line bytes)
held-clear r bytes h e = ap held (place-clear r bytes h e) ∙ held-tail (open_line bytes)

known : (r : Reading) (bytes : List ℕ) → IsAfter r bytes → IsKnown r.cut
known r bytes h = subst IsKnown (sym h.cut) (IsKnown-cut (text_behind bytes))

-- the cut of a longer text
cut-gains : (r : Reading) (bytes text more : List ℕ) → IsAfter r bytes → text ≡ text_behind bytes ++ more → cut_of text ≡ with_bytes r.cut more
cut-gains r bytes text more h e = ap cut_of e ∙ (cut_of-append (text_behind bytes) more ∙ ap (λ c. with_bytes c more) (sym h.cut))

-- a line ends the joined line, or joins the next one to it
pub joins-commented : (line : List ℕ) → has_hash line ≡ true → joins line ≡ false
joins-commented line e = and_left (not (has_hash line)) (not (is_empty (tail_of line))) (not_from_true (has_hash line) e)

pub joins-clear : (line : List ℕ) → has_hash line ≡ false → joins line ≡ not (is_empty (tail_of line))
joins-clear line e = rw e refl

-- a line without a comment joins the next one where it ends in `\`
joins-tail : (line : List ℕ) {b : ℕ} {tail : List ℕ} → has_hash line ≡ false → tail_of line ≡ b ∷ tail → joins line ≡ true
joins-tail line e t = joins-clear line e ∙ ap (λ l. not (is_empty l)) t

pub text-ends : (bytes : List ℕ) → joins (open_line bytes) ≡ false → open_text bytes ≡ text_behind bytes
text-ends bytes e = rw (e, append-nil (certain (open_line bytes))) refl

text-joins : (bytes : List ℕ) → joins (open_line bytes) ≡ true → open_text bytes ≡ text_behind bytes ++ 32 ∷ []
text-joins bytes e = rw e (sym (append_assoc (text_before bytes) (certain (open_line bytes)) (32 ∷ [])))

-- what is certain of a line, and the blank for the `\` at its end, is its text
text_of-place : (line : List ℕ) → text_of line ≡ certain line ++ blank_at (place_of line)
text_of-place line =
    ap (λ t. certain line ++ t) (⊎_elim
    (λ (e : has_hash line ≡ true). rw (joins-commented line e, place_of-commented line e) refl)
    (λ (e : has_hash line ≡ false). rw (joins-clear line e, place_of-clear line e) (by_tail (tail_of line)))
    (cases_Bool (has_hash line))) where
      by_tail : (tail : List ℕ) → (if not (is_empty tail) then 32 ∷ [] else []) ≡ blank_at (place_of_tail tail)
      by_tail [] = refl
      by_tail (x ∷ []) = refl
      by_tail (x ∷ y ∷ tail) = refl

pub open_text-place : (bytes : List ℕ) → open_text bytes ≡ text_behind bytes ++ blank_at (place_of (open_line bytes))
open_text-place bytes =
    ap (λ t. text_before bytes ++ t) (text_of-place (open_line bytes))
    ∙ sym (append_assoc (text_before bytes) (certain (open_line bytes)) (blank_at (place_of (open_line bytes))))

-- the cut of the joined line with the whole open line
cut-open : (r : Reading) (bytes : List ℕ) → IsAfter r bytes → cut_of (open_text bytes) ≡ with_bytes r.cut (blank_at r.place)
cut-open r bytes h = cut-gains r bytes _ (blank_at r.place) h (open_text-place bytes ∙ ap (λ p. text_behind bytes ++ blank_at p) (sym h.place))

cut-ends : (r : Reading) (bytes : List ℕ) → IsAfter r bytes → joins (open_line bytes) ≡ false → cut_of (open_text bytes) ≡ r.cut
cut-ends r bytes h e = ap cut_of (text-ends bytes e) ∙ sym h.cut

cut-joins : (r : Reading) (bytes : List ℕ) → IsAfter r bytes → joins (open_line bytes) ≡ true → cut_of (open_text bytes) ≡ with_byte r.cut 32
cut-joins r bytes h e = cut-gains r bytes _ (32 ∷ []) h (text-joins bytes e)

-- no word is too long, with the blank and without
short-open : (r : Reading) (bytes : List ℕ) → IsAfter r bytes → has_long false (with_bytes r.cut (blank_at r.place)) ≡ false
short-open r bytes h = sym (ap (has_long false) (cut-open r bytes h)) ∙ h.short

short-cut : (r : Reading) (bytes : List ℕ) → IsAfter r bytes → has_long false r.cut ≡ false
short-cut r bytes h = has_long-front r.cut (blank_at r.place) (known r bytes h) (short-open r bytes h)

-- the text with a byte
pub text_with-feed : (bytes : List ℕ) (b : ℕ) → is_line_feed b ≡ true → text_with bytes b ≡ open_text bytes
text_with-feed bytes b e = ap open_text (cond-true (is_line_feed b) _ _ e)

pub text_with-other : (bytes : List ℕ) (b : ℕ) → is_line_feed b ≡ false → text_with bytes b ≡ open_text (bytes ++ b ∷ [])
text_with-other bytes b n = ap open_text (cond-false (is_line_feed b) _ _ n)

-- a byte that is no line feed goes to the open line
text_behind-more : (bytes : List ℕ) (b : ℕ) → is_line_feed b ≡ false → text_behind (bytes ++ b ∷ []) ≡ text_before bytes ++ certain (open_line bytes ++ b ∷ [])
text_behind-more bytes b n = rw (closed-more is_line_feed bytes b n, open_piece-more is_line_feed bytes b n) refl

-- ---- what a byte adds to the text

hash-return : (b : ℕ) → (b == 13) ≡ true → is_hash b ≡ false
hash-return b e = let P : ℕ → Type 0 = λ n. is_hash n ≡ false in subst P (sym (eqb-true b 13 e)) refl

-- the bytes that it adds, and where the next byte stands
pub record Adds (bytes : List ℕ) (b : ℕ) (more : List ℕ) (place : Place) : Type 0 where
  pub stands : Stands (open_line bytes ++ b ∷ []) (certain (open_line bytes) ++ more) place

standing : (line text other : List ℕ) (place : Place) → text ≡ other → Stands line text place → Stands line other place
standing line text other place e s = let P : List ℕ → Type 0 = λ t. Stands line t place in subst P e s

adds-return : (bytes : List ℕ) (b : ℕ) → in_comment bytes ≡ false → is_hash b ≡ false → (b == 13) ≡ true → tail_of (open_line bytes) ≡ 92 ∷ [] → Adds bytes b [] Return
adds-return bytes b e h r t = record { stands = standing _ _ _ Return (sym (append-nil (certain (open_line bytes)))) (stands-return (open_line bytes) b e h r t) }

adds-hash : (bytes : List ℕ) (b : ℕ) → in_comment bytes ≡ false → is_hash b ≡ true → Adds bytes b (tail_of (open_line bytes)) Comment
adds-hash bytes b e h = record { stands = standing _ _ _ Comment (sym (whole_certain (open_line bytes) e)) (stands-hash (open_line bytes) b e h) }

adds-backslash : (bytes : List ℕ) (b : ℕ) → in_comment bytes ≡ false → is_hash b ≡ false → (b == 92) ≡ true → Adds bytes b (tail_of (open_line bytes)) Backslash
adds-backslash bytes b e h r = record { stands = standing _ _ _ Backslash (sym (whole_certain (open_line bytes) e)) (stands-backslash (open_line bytes) b e h r) }

adds-other : (bytes : List ℕ) (b : ℕ) → in_comment bytes ≡ false → is_hash b ≡ false → (b == 92) ≡ false → ((b == 13) ≡ true → tail_of (open_line bytes) ≡ 92 ∷ [] → ⊥) → Adds bytes b (tail_of (open_line bytes) ++ b ∷ []) Text
adds-other bytes b e h n other =
    let whole : certain (open_line bytes) ++ (tail_of (open_line bytes) ++ b ∷ []) ≡ open_line bytes ++ b ∷ [] = sym (append_assoc (certain (open_line bytes)) (tail_of (open_line bytes)) (b ∷ [])) ∙ ap (λ l. l ++ b ∷ []) (whole_certain (open_line bytes) e) in
    record { stands = standing _ _ _ Text (sym whole) (stands-other (open_line bytes) b e h n other) }

pub adds-comment : (bytes : List ℕ) (b : ℕ) → in_comment bytes ≡ true → Adds bytes b [] Comment
adds-comment bytes b e = record { stands = standing _ _ _ Comment (sym (append-nil (certain (open_line bytes)))) (stands-commented (open_line bytes) b e) }

-- the text with it
pub text-adds : (bytes more : List ℕ) (b : ℕ) (place : Place) → is_line_feed b ≡ false → Adds bytes b more place → text_behind (bytes ++ b ∷ []) ≡ text_behind bytes ++ more
text-adds bytes more b place n a =
    text_behind-more bytes b n ∙ (ap (λ t. text_before bytes ++ t) a.stands.text_is ∙ sym (append_assoc (text_before bytes) (certain (open_line bytes)) more))

pub open_text-adds : (bytes more : List ℕ) (b : ℕ) (place : Place) → is_line_feed b ≡ false → Adds bytes b more place → open_text (bytes ++ b ∷ []) ≡ text_behind bytes ++ (more ++ blank_at place)
open_text-adds bytes more b place n a =
    open_text-place (bytes ++ b ∷ [])
    ∙ (ap (λ l. text_behind (bytes ++ b ∷ []) ++ blank_at (place_of l)) (open_piece-more is_line_feed bytes b n)
    ∙ (ap (λ p. text_behind (bytes ++ b ∷ []) ++ blank_at p) a.stands.place_is
    ∙ (ap (λ t. t ++ blank_at place) (text-adds bytes more b place n a) ∙ append_assoc (text_behind bytes) more (blank_at place))))

-- a byte of a comment adds nothing
pub text-comment : (bytes : List ℕ) (b : ℕ) → in_comment bytes ≡ true → is_line_feed b ≡ false → text_behind (bytes ++ b ∷ []) ≡ text_behind bytes
text-comment bytes b e n = text-adds bytes [] b Comment n (adds-comment bytes b e) ∙ append-nil (text_behind bytes)

pub open_text-comment : (bytes : List ℕ) (b : ℕ) → in_comment bytes ≡ true → is_line_feed b ≡ false → open_text (bytes ++ b ∷ []) ≡ open_text bytes
open_text-comment bytes b e n =
    open_text-adds bytes [] b Comment n (adds-comment bytes b e) ∙ (append-nil (text_behind bytes) ∙ sym (text-ends bytes (joins-commented (open_line bytes) e)))

-- a `#` settles what was held back
pub open_text-hash : (bytes : List ℕ) (b : ℕ) → in_comment bytes ≡ false → is_line_feed b ≡ false → is_hash b ≡ true → open_text (bytes ++ b ∷ []) ≡ text_behind bytes ++ tail_of (open_line bytes)
open_text-hash bytes b e n hash =
    open_text-adds bytes (tail_of (open_line bytes)) b Comment n (adds-hash bytes b e hash) ∙ ap (λ bs. text_behind bytes ++ bs) (append-nil (tail_of (open_line bytes)))

-- a carriage return behind a `\` settles nothing
pub open_text-return : (bytes : List ℕ) (b : ℕ) → in_comment bytes ≡ false → is_line_feed b ≡ false → (b == 13) ≡ true → tail_of (open_line bytes) ≡ 92 ∷ [] → open_text (bytes ++ b ∷ []) ≡ text_behind bytes ++ 32 ∷ []
open_text-return bytes b e n returns there = open_text-adds bytes [] b Return n (adds-return bytes b e (hash-return b returns) returns there)

-- any other byte settles it, and is added, or the blank for a `\`
pub open_text-solid : (bytes : List ℕ) (b : ℕ) → in_comment bytes ≡ false → is_line_feed b ≡ false → is_hash b ≡ false → ((b == 13) ≡ true → tail_of (open_line bytes) ≡ 92 ∷ [] → ⊥) → open_text (bytes ++ b ∷ []) ≡ text_behind bytes ++ (tail_of (open_line bytes) ++ (if b == 92 then 32 else b) ∷ [])
open_text-solid bytes b e n clear alone =
    let tail = tail_of (open_line bytes) in
    let behind : ℕ → List ℕ = λ x. text_behind bytes ++ (tail ++ x ∷ []) in
    ⊎_elim
    (λ (back : (b == 92) ≡ true). open_text-adds bytes tail b Backslash n (adds-backslash bytes b e clear back) ∙ ap behind (sym (cond-true (b == 92) 32 b back)))
    (λ (other : (b == 92) ≡ false). (
    open_text-adds bytes (tail ++ b ∷ []) b Text n (adds-other bytes b e clear other alone)
    ∙ (ap (λ bs. text_behind bytes ++ bs) (append-nil (tail ++ b ∷ [])) ∙ ap behind (sym (cond-false (b == 92) 32 b other)))
    ))
    (cases_Bool (b == 92))

-- ---- the fault of a byte

pub ends-other : (bytes : List ℕ) (b : ℕ) → is_line_feed b ≡ false → ends_with_byte bytes b ≡ is_hash b
ends-other bytes b e = rw e (or-false (is_hash b))

hash-feed : (b : ℕ) → is_line_feed b ≡ true → is_hash b ≡ false
hash-feed b e = let P : ℕ → Type 0 = λ n. is_hash n ≡ false in subst P (sym (eqb-true b 10 e)) refl

-- a line feed ends the joined line, or joins the next line to it
pub feed_ends : (bytes : List ℕ) (b : ℕ) → is_line_feed b ≡ true → joins (open_line bytes) ≡ false → ends_with_byte bytes b ≡ true
feed_ends bytes b f stops = or_right (is_hash b) (is_line_feed b && not (joins (open_line bytes))) (and_from (is_line_feed b) (not (joins (open_line bytes))) f (not_from_false (joins (open_line bytes)) stops))

pub feed_goes : (bytes : List ℕ) (b : ℕ) → is_line_feed b ≡ true → joins (open_line bytes) ≡ true → ends_with_byte bytes b ≡ false
feed_goes bytes b f goes = or_from (is_hash b) (is_line_feed b && not (joins (open_line bytes))) (hash-feed b f) (and_right (is_line_feed b) (not (joins (open_line bytes))) (not_from_true (joins (open_line bytes)) goes))

pub acceptable-feed : (b : ℕ) → is_line_feed b ≡ true → is_acceptable b ≡ true
acceptable-feed b e = let P : ℕ → Type 0 = λ n. is_acceptable n ≡ true in subst P (sym (eqb-true b 10 e)) refl

-- a byte of a text that is no line feed: the words tell the fault, cut with what it adds
fault-text : (r : Reading) (bytes more : List ℕ) (b : ℕ) → IsAfter r bytes → is_line_feed b ≡ false → open_text (bytes ++ b ∷ []) ≡ text_behind bytes ++ more → words_fault (line_number bytes) (ends_with_byte bytes b) (cut_of (text_with bytes b)) ≡ words_fault r.here (is_hash b) (with_bytes r.cut more)
fault-text r bytes more b h n adds =
    rw (ends-other bytes b n, cut-gains r bytes (text_with bytes b) more h (text_with-other bytes b n ∙ adds), ← h.here) refl

-- the long words of what was held back and of one more byte
long_with_bytes-push : (cut : Cut) (bs : List ℕ) (b : ℕ) → long_with_bytes cut (bs ++ b ∷ []) ≡ (long_with_bytes cut bs || long_with (with_bytes cut bs) b)
long_with_bytes-push cut [] b = or-false (long_with cut b)
long_with_bytes-push cut (x ∷ bs) b =
    ap (λ t. long_with cut x || t) (long_with_bytes-push (with_byte cut x) bs b) ∙ sym (or_assoc (long_with cut x) (long_with_bytes (with_byte cut x) bs) (long_with (with_bytes (with_byte cut x) bs) b))

long_fault-or : (line : ℕ) (s t : Bool) → long_fault line (s || t) ≡ (if s then Some (LongWord line) else long_fault line t)
long_fault-or line true t = refl
long_fault-or line false t = refl

-- the fault that the state tells of such a byte is the one that the words tell
text_fault-words : (r : Reading) (bytes : List ℕ) (b : ℕ) → IsAfter r bytes → in_comment bytes ≡ false → is_line_feed b ≡ false → (if not (is_acceptable b) then Some (BadByte (line_number bytes) b) else words_fault (line_number bytes) (ends_with_byte bytes b) (cut_of (text_with bytes b))) ≡ text_fault r b
unfolding text_fault settled
text_fault-words r bytes b h e n =
    let tail = tail_of (open_line bytes) in
    let holds = held-clear r bytes h e in
    let long : (more : List ℕ) → has_long false (with_bytes r.cut more) ≡ long_with_bytes r.cut more = λ more. has_long-bytes r.cut more (known r bytes h) (short-cut r bytes h) in
    ⊎_elim
    (λ (bad : not (is_acceptable b) ≡ true). cond-true (not (is_acceptable b)) _ _ bad ∙ (ap (λ l. Some (BadByte l b)) (sym h.here) ∙ sym (cond-true (not (is_acceptable b)) _ _ bad)))
    (λ (good : not (is_acceptable b) ≡ false). cond-false (not (is_acceptable b)) _ _ good ∙ (⊎_elim
    (λ (returns : ((b == 13) && is_backslash r.place) ≡ true). (
    let both = and_parts (b == 13) (is_backslash r.place) returns in
    let there = tail-backslash (open_line bytes) (ap is_backslash (sym (place-clear r bytes h e)) ∙ both.1) in
    let clear = hash-return b both.0 in
    let stopped : has_long false (with_byte r.cut 32) ≡ false = sym (ap (λ p. has_long false (with_bytes r.cut (blank_at p))) (place-clear r bytes h e ∙ ap place_of_tail there)) ∙ short-open r bytes h in
    fault-text r bytes (32 ∷ []) b h n (open_text-return bytes b e n both.0 there)
    ∙ (ap (λ t. words_fault r.here t (with_byte r.cut 32)) clear
    ∙ (cond-false (has_long false (with_byte r.cut 32)) _ _ stopped ∙ sym (cond-true ((b == 13) && is_backslash r.place) _ _ returns)))
    ))
    (λ (goes : ((b == 13) && is_backslash r.place) ≡ false). ⊎_elim
    (λ (hash : is_hash b ≡ true). (
    fault-text r bytes tail b h n (open_text-hash bytes b e n hash)
    ∙ (ap (λ t. words_fault r.here t (with_bytes r.cut tail)) hash
    ∙ (words_fault-end r.here (with_bytes r.cut tail)
    ∙ (ap (λ t. if t then Some (LongWord r.here) else end_fault_of r.here (with_bytes r.cut tail)) (long tail)
    ∙ (ap (λ bs. if long_with_bytes r.cut bs then Some (LongWord r.here) else end_fault_of r.here (with_bytes r.cut bs)) (sym holds)
    ∙ sym (cond-false ((b == 13) && is_backslash r.place) _ _ goes ∙ ap (λ f. if long_with_bytes r.cut (held r.place) then Some (LongWord r.here) else f) (cond-true (is_hash b) _ _ hash))))))
    ))
    (λ (clear : is_hash b ≡ false). (
    let x : ℕ = if b == 92 then 32 else b in
    let alone = λ (c : (b == 13) ≡ true) (t : tail_of (open_line bytes) ≡ 92 ∷ []). false≢true (sym goes ∙ and_from (b == 13) (is_backslash r.place) c (ap is_backslash (place-clear r bytes h e) ∙ backslash-tail (open_line bytes) t)) in
    fault-text r bytes (tail ++ x ∷ []) b h n (open_text-solid bytes b e n clear alone)
    ∙ (ap (λ t. words_fault r.here t (with_bytes r.cut (tail ++ x ∷ []))) clear
    ∙ (ap (long_fault r.here) (long (tail ++ x ∷ []) ∙ long_with_bytes-push r.cut tail x)
    ∙ (ap (λ bs. long_fault r.here (long_with_bytes r.cut bs || long_with (with_bytes r.cut bs) x)) (sym holds)
    ∙ (long_fault-or r.here (long_with_bytes r.cut (held r.place)) (long_with (with_bytes r.cut (held r.place)) x)
    ∙ sym (cond-false ((b == 13) && is_backslash r.place) _ _ goes ∙ ap (λ f. if long_with_bytes r.cut (held r.place) then Some (LongWord r.here) else f) (cond-false (is_hash b) _ _ clear))))))
    ))
    (cases_Bool (is_hash b)))
    (cases_Bool ((b == 13) && is_backslash r.place)) ∙ sym (cond-false (not (is_acceptable b)) _ _ good)))
    (cases_Bool (not (is_acceptable b)))

-- the state tells the fault that the bytes tell
pub fault_at-now : (r : Reading) (bytes : List ℕ) (b : ℕ) → IsAfter r bytes → fault_at r.limit bytes b ≡ fault_now r b
unfolding fault_at fault_now
fault_at-now r bytes b h =
    rw (← h.size) (within (nat_le r.limit r.size) (line_number bytes) r.here _ _ (sym h.here) (fault_in_place r bytes b h)) where
      within : (t : Bool) (l m : ℕ) (x y : Option LexFault) → l ≡ m → x ≡ y → (if t then Some (TooLarge l) else x) ≡ (if t then Some (TooLarge m) else y)
      within t l m x y e f = rw (e, f) refl

      -- a line feed that ends the joined line, or joins the next one to it
      at_end : (r : Reading) (bytes : List ℕ) (b : ℕ) → IsAfter r bytes → in_comment bytes ≡ false → is_line_feed b ≡ true → tail_of (open_line bytes) ≡ [] → words_fault (line_number bytes) (ends_with_byte bytes b) (cut_of (text_with bytes b)) ≡ end_fault_of r.here r.cut
      at_end r bytes b h e f none =
          let stops : joins (open_line bytes) ≡ false = joins-clear (open_line bytes) e ∙ ap (λ t. not (is_empty t)) none in
          rw (feed_ends bytes b f stops, text_with-feed bytes b f, cut-ends r bytes h stops, ← h.here) (words_fault-end r.here r.cut ∙ cond-false (has_long false r.cut) _ _ (short-cut r bytes h))

      at_join : (r : Reading) (bytes : List ℕ) (b : ℕ) → IsAfter r bytes → in_comment bytes ≡ false → is_line_feed b ≡ true → joins (open_line bytes) ≡ true → words_fault (line_number bytes) (ends_with_byte bytes b) (cut_of (text_with bytes b)) ≡ None
      at_join r bytes b h e f goes =
          rw (feed_goes bytes b f goes, text_with-feed bytes b f) (cond-false (has_long false (cut_of (open_text bytes))) _ _ h.short)

      -- the fault at a line feed is this one
      at_feed : (r : Reading) (bytes : List ℕ) (b : ℕ) (x : Option LexFault) → IsAfter r bytes → in_comment bytes ≡ false → (is_line_feed b ≡ true → words_fault (line_number bytes) (ends_with_byte bytes b) (cut_of (text_with bytes b)) ≡ x) → (if not (is_acceptable b) then Some (BadByte (line_number bytes) b) else words_fault (line_number bytes) (ends_with_byte bytes b) (cut_of (text_with bytes b))) ≡ (if is_line_feed b then x else text_fault r b)
      at_feed r bytes b x h e told =
          ⊎_elim
          (λ (f : is_line_feed b ≡ true). cond-false (not (is_acceptable b)) _ _ (not_from_true (is_acceptable b) (acceptable-feed b f)) ∙ (told f ∙ sym (cond-true (is_line_feed b) _ _ f)))
          (λ (f : is_line_feed b ≡ false). text_fault-words r bytes b h e f ∙ sym (cond-false (is_line_feed b) _ _ f))
          (cases_Bool (is_line_feed b))

      -- by what stands at the end of the open line
      by_tail : (r : Reading) (bytes : List ℕ) (b : ℕ) (tail : List ℕ) → IsAfter r bytes → in_comment bytes ≡ false → tail_of (open_line bytes) ≡ tail → (if not (is_acceptable b) then Some (BadByte (line_number bytes) b) else words_fault (line_number bytes) (ends_with_byte bytes b) (cut_of (text_with bytes b))) ≡ place_fault r (place_of_tail tail) b
      by_tail r bytes b [] h e t = at_feed r bytes b (end_fault_of r.here r.cut) h e (λ f. at_end r bytes b h e f t)
      by_tail r bytes b (x ∷ []) h e t = at_feed r bytes b None h e (λ f. at_join r bytes b h e f (joins-tail (open_line bytes) e t))
      by_tail r bytes b (x ∷ y ∷ tail) h e t = at_feed r bytes b None h e (λ f. at_join r bytes b h e f (joins-tail (open_line bytes) e t))

      fault_in_place : (r : Reading) (bytes : List ℕ) (b : ℕ) → IsAfter r bytes → (if in_comment bytes then None else (if not (is_acceptable b) then Some (BadByte (line_number bytes) b) else words_fault (line_number bytes) (ends_with_byte bytes b) (cut_of (text_with bytes b)))) ≡ place_fault r r.place b
      fault_in_place r bytes b h =
          ⊎_elim
          (λ (e : in_comment bytes ≡ true). cond-true (in_comment bytes) _ _ e ∙ ap (λ p. place_fault r p b) (sym (place-commented r bytes h e)))
          (λ (e : in_comment bytes ≡ false). cond-false (in_comment bytes) _ _ e ∙ (by_tail r bytes b (tail_of (open_line bytes)) h e refl ∙ ap (λ p. place_fault r p b) (sym (place-clear r bytes h e))))
          (cases_Bool (in_comment bytes))

pub first_fault-stepped : (r : Reading) (bytes : List ℕ) (b : ℕ) → IsAfter r bytes → fault_now r b ≡ None → first_fault r.limit [] (bytes ++ b ∷ []) ≡ None
first_fault-stepped r bytes b h none =
    rw (first_fault-append r.limit [] bytes (b ∷ []), h.accepted, fault_at-now r bytes b h, none) refl

-- ---- the state behind a byte

pub none_else : {A : Type 0} (t : Bool) (x : A) (o : Option A) → (if t then Some x else o) ≡ None → (t ≡ false) × (o ≡ None)
none_else true x o e = cc
none_else false x o e = (refl, e)

pub short_words : (line : ℕ) (ended : Bool) (cut : Cut) → words_fault line ended cut ≡ None → has_long false cut ≡ false
short_words line true cut e = (none_else (has_long false cut) (LongWord line) (end_fault_of line cut) (sym (words_fault-end line cut) ∙ e)).0
short_words line false cut e = (none_else (has_long false cut) (LongWord line) None e).0

-- no byte outside a comment that has no fault makes a word too long
short_with : (r : Reading) (bytes : List ℕ) (b : ℕ) → IsAfter r bytes → in_comment bytes ≡ false → fault_now r b ≡ None → has_long false (cut_of (text_with bytes b)) ≡ false
unfolding fault_at
short_with r bytes b h e none =
    let told : fault_at r.limit bytes b ≡ None = fault_at-now r bytes b h ∙ none in
    let within = (none_else (nat_le r.limit (length bytes)) (TooLarge (line_number bytes)) _ told).1 in
    let clear = sym (cond-false (in_comment bytes) None _ e) ∙ within in
    let good = (none_else (not (is_acceptable b)) (BadByte (line_number bytes) b) _ clear).1 in
    short_words (line_number bytes) (ends_with_byte bytes b) (cut_of (text_with bytes b)) good

-- behind a byte that is no line feed
after_byte : (r : Reading) (bytes more : List ℕ) (b : ℕ) (place : Place) → IsAfter r bytes → fault_now r b ≡ None → is_line_feed b ≡ false → Adds bytes b more place → has_long false (cut_of (open_text (bytes ++ b ∷ []))) ≡ false → IsAfter (record r { size = r.size + 1; place = place; cut = with_bytes r.cut more }) (bytes ++ b ∷ [])
after_byte r bytes more b place h none n a short =
    let lines = closed-more is_line_feed bytes b n in
    let line = open_piece-more is_line_feed bytes b n in
    record {
      size = rw (h.size, length-append bytes (b ∷ [])) refl;
      here = rw (h.here, lines) refl;
      start = rw lines h.start;
      place = rw line (sym a.stands.place_is);
      cut = sym (cut-gains r bytes (text_behind (bytes ++ b ∷ [])) more h (text-adds bytes more b place n a));
      short = short;
      accepted = first_fault-stepped r bytes b h none;
      going = h.going;
    }

after_text : (r : Reading) (bytes more : List ℕ) (b : ℕ) (place : Place) → IsAfter r bytes → fault_now r b ≡ None → is_line_feed b ≡ false → in_comment bytes ≡ false → Adds bytes b more place → IsAfter (record r { size = r.size + 1; place = place; cut = with_bytes r.cut more }) (bytes ++ b ∷ [])
after_text r bytes more b place h none n e a =
    after_byte r bytes more b place h none n a (sym (ap (λ t. has_long false (cut_of t)) (text_with-other bytes b n)) ∙ short_with r bytes b h e none)

-- in a text: by what the byte is
IsAfter-text : (r : Reading) (bytes : List ℕ) (b : ℕ) → IsAfter r bytes → fault_now r b ≡ None → is_line_feed b ≡ false → in_comment bytes ≡ false → IsAfter (text_step r b) (bytes ++ b ∷ [])
unfolding text_step settled
IsAfter-text r bytes b h none n e =
    let P : Reading → Type 0 = λ s. IsAfter s (bytes ++ b ∷ []) in
    let tail = tail_of (open_line bytes) in
    let holds : tail ≡ held r.place = sym (held-clear r bytes h e) in
    let Q : Place → List ℕ → Type 0 = λ p bs. IsAfter (record r { size = r.size + 1; place = p; cut = with_bytes r.cut bs }) (bytes ++ b ∷ []) in
    cond_both ((b == 13) && is_backslash r.place) _ _ P
    (λ returns. (
    let both = and_parts (b == 13) (is_backslash r.place) returns in
    let there = tail-backslash (open_line bytes) (ap is_backslash (sym (place-clear r bytes h e)) ∙ both.1) in
    after_text r bytes [] b Return h none n e (adds-return bytes b e (hash-return b both.0) both.0 there)
    ))
    (λ goes. cond_both (is_hash b) _ _ P
    (λ hash. subst (Q Comment) holds (after_text r bytes tail b Comment h none n e (adds-hash bytes b e hash)))
    (λ clear. cond_both (b == 92) _ _ P
    (λ back. subst (Q Backslash) holds (after_text r bytes tail b Backslash h none n e (adds-backslash bytes b e clear back)))
    (λ other. (
    let alone = λ (c : (b == 13) ≡ true) (t : tail_of (open_line bytes) ≡ 92 ∷ []). false≢true (sym goes ∙ and_from (b == 13) (is_backslash r.place) c (ap is_backslash (place-clear r bytes h e) ∙ backslash-tail (open_line bytes) t)) in
    let R : Cut → Type 0 = λ c. IsAfter (record r { size = r.size + 1; place = Text; cut = c }) (bytes ++ b ∷ []) in
    subst R (with_bytes-append r.cut (held r.place) (b ∷ []))
    (subst (λ (bs : List ℕ). Q Text (bs ++ b ∷ [])) holds (after_text r bytes (tail ++ b ∷ []) b Text h none n e (adds-other bytes b e clear other alone)))
    ))))

-- behind a line feed the open line is empty
nothing_open : (bytes : List ℕ) (b : ℕ) → is_line_feed b ≡ true → text_behind (bytes ++ b ∷ []) ≡ texts (unended (ended_lines bytes ++ open_line bytes ∷ []))
nothing_open bytes b f = rw (closed-end is_line_feed bytes b f, open_piece-end is_line_feed bytes b f) (append-nil (texts (unended (ended_lines bytes ++ open_line bytes ∷ []))))

nothing_more : (bytes : List ℕ) (b : ℕ) → is_line_feed b ≡ true → open_text (bytes ++ b ∷ []) ≡ text_behind (bytes ++ b ∷ [])
nothing_more bytes b f = rw (open_piece-end is_line_feed bytes b f) refl

pub texts-push : (lines : List (List ℕ)) (line : List ℕ) → texts (lines ++ line ∷ []) ≡ texts lines ++ text_of line
texts-push lines line = flat_map-append text_of lines (line ∷ []) ∙ ap (λ t. texts lines ++ t) (append-nil (text_of line))

text_behind-next : (bytes : List ℕ) (b : ℕ) → is_line_feed b ≡ true → joins (open_line bytes) ≡ true → text_behind (bytes ++ b ∷ []) ≡ open_text bytes
text_behind-next bytes b f goes =
    nothing_open bytes b f ∙ (ap texts (unended-more (ended_lines bytes) (open_line bytes) goes) ∙ texts-push (unended (ended_lines bytes)) (open_line bytes))

-- the text goes on behind one that joins the next line, and begins anew behind any other
pub open_text-next : (bytes : List ℕ) (b : ℕ) → is_line_feed b ≡ true → joins (open_line bytes) ≡ true → open_text (bytes ++ b ∷ []) ≡ open_text bytes
open_text-next bytes b f goes = nothing_more bytes b f ∙ text_behind-next bytes b f goes

pub open_text-new : (bytes : List ℕ) (b : ℕ) → is_line_feed b ≡ true → joins (open_line bytes) ≡ false → open_text (bytes ++ b ∷ []) ≡ []
open_text-new bytes b f stops = nothing_more bytes b f ∙ (nothing_open bytes b f ∙ ap texts (unended-end (ended_lines bytes) (open_line bytes) stops))

-- that ends the joined line
IsAfter-new : (r : Reading) (bytes : List ℕ) (b : ℕ) → IsAfter r bytes → fault_now r b ≡ None → is_line_feed b ≡ true → joins (open_line bytes) ≡ false → IsAfter (new_line r) (bytes ++ b ∷ [])
unfolding cut_of
IsAfter-new r bytes b h none f stops =
    let lines = closed-end is_line_feed bytes b f in
    let ends = unended-end (ended_lines bytes) (open_line bytes) stops in
    record {
      size = rw (h.size, length-append bytes (b ∷ [])) refl;
      here = rw (h.here, lines, length-append (ended_lines bytes) (open_line bytes ∷ [])) refl;
      start = rw (lines, ends) (omega arith);
      place = rw (open_piece-end is_line_feed bytes b f) refl;
      cut = sym (ap cut_of (nothing_open bytes b f ∙ ap texts ends));
      short = ap (λ t. has_long false (cut_of t)) (open_text-new bytes b f stops);
      accepted = first_fault-stepped r bytes b h none;
      going = h.going;
    }

-- that joins the next line to it
IsAfter-next : (r : Reading) (bytes : List ℕ) (b : ℕ) → IsAfter r bytes → fault_now r b ≡ None → is_line_feed b ≡ true → in_comment bytes ≡ false → joins (open_line bytes) ≡ true → IsAfter (next_line r) (bytes ++ b ∷ [])
IsAfter-next r bytes b h none f e goes =
    let lines = closed-end is_line_feed bytes b f in
    let more = unended-more (ended_lines bytes) (open_line bytes) goes in
    let longer = length-append (unended (ended_lines bytes)) (open_line bytes ∷ []) in
    record {
      size = rw (h.size, length-append bytes (b ∷ [])) refl;
      here = rw (h.here, lines, length-append (ended_lines bytes) (open_line bytes ∷ [])) refl;
      start = rw (lines, more) (omega (arith, h.start, longer));
      place = rw (open_piece-end is_line_feed bytes b f) refl;
      cut = sym (ap cut_of (text_behind-next bytes b f goes) ∙ cut-joins r bytes h goes);
      short = ap (λ t. has_long false (cut_of t)) (open_text-next bytes b f goes) ∙ h.short;
      accepted = first_fault-stepped r bytes b h none;
      going = h.going;
    }

after_comment : (r : Reading) (bytes : List ℕ) (b : ℕ) → IsAfter r bytes → fault_now r b ≡ None → in_comment bytes ≡ true → IsAfter (place_step r Comment b) (bytes ++ b ∷ [])
after_comment r bytes b h none e =
    let P : Reading → Type 0 = λ s. IsAfter s (bytes ++ b ∷ []) in
    let Q : Place → Type 0 = λ q. P (record r { size = r.size + 1; place = q }) in
    cond_both (is_line_feed b) _ _ P
    (λ f. IsAfter-new r bytes b h none f (joins-commented (open_line bytes) e))
    (λ n. (
    let short = ap (λ t. has_long false (cut_of t)) (open_text-comment bytes b e n) ∙ h.short in
    subst Q (sym (place-commented r bytes h e)) (after_byte r bytes [] b Comment h none n (adds-comment bytes b e) short)
    ))

-- behind a `\`, and behind a carriage return after it
after_joining : (r : Reading) (bytes : List ℕ) (b : ℕ) → IsAfter r bytes → fault_now r b ≡ None → in_comment bytes ≡ false → joins (open_line bytes) ≡ true → IsAfter (if is_line_feed b then next_line r else text_step r b) (bytes ++ b ∷ [])
after_joining r bytes b h none e goes =
    let P : Reading → Type 0 = λ s. IsAfter s (bytes ++ b ∷ []) in
    cond_both (is_line_feed b) _ _ P (λ f. IsAfter-next r bytes b h none f e goes) (λ n. IsAfter-text r bytes b h none n e)

-- by what stands at the end of the open line
after_tail : (r : Reading) (bytes : List ℕ) (b : ℕ) (tail : List ℕ) → IsAfter r bytes → fault_now r b ≡ None → in_comment bytes ≡ false → tail_of (open_line bytes) ≡ tail → IsAfter (place_step r (place_of_tail tail) b) (bytes ++ b ∷ [])
after_tail r bytes b [] h none e t =
    let P : Reading → Type 0 = λ s. IsAfter s (bytes ++ b ∷ []) in
    let stops : joins (open_line bytes) ≡ false = joins-clear (open_line bytes) e ∙ ap (λ l. not (is_empty l)) t in
    cond_both (is_line_feed b) _ _ P (λ f. IsAfter-new r bytes b h none f stops) (λ n. IsAfter-text r bytes b h none n e)
after_tail r bytes b (x ∷ []) h none e t = after_joining r bytes b h none e (joins-tail (open_line bytes) e t)
after_tail r bytes b (x ∷ y ∷ tail) h none e t = after_joining r bytes b h none e (joins-tail (open_line bytes) e t)

pub IsAfter-stepped : (r : Reading) (bytes : List ℕ) (b : ℕ) → IsAfter r bytes → fault_now r b ≡ None → IsAfter (stepped r b) (bytes ++ b ∷ [])
unfolding stepped
IsAfter-stepped r bytes b h none =
    let P : Place → Type 0 = λ q. IsAfter (place_step r q b) (bytes ++ b ∷ []) in
    ⊎_elim
    (λ (e : in_comment bytes ≡ true). subst P (sym (place-commented r bytes h e)) (after_comment r bytes b h none e))
    (λ (e : in_comment bytes ≡ false). subst P (sym (place-clear r bytes h e)) (after_tail r bytes b (tail_of (open_line bytes)) h none e refl))
    (cases_Bool (in_comment bytes))

-- ---- the lines that have ended

numbered-append : (n : ℕ) (xs ys : List (List (List ℕ))) → numbered n (xs ++ ys) ≡ numbered n xs ++ numbered (n + lines_in xs) ys
numbered-append n [] ys = let e : n + 0 ≡ n = omega arith in rw e refl
numbered-append n (x ∷ xs) ys =
    let e : n + lines_in (x ∷ xs) ≡ (n + length x) + lines_in xs = omega arith in
    rw (numbered-append (n + length x) xs ys, e) (sym (append_assoc (line_at n (words_of (texts x))) (numbered (n + length x) xs) (numbered ((n + length x) + lines_in xs) ys)))

-- the number of the joined line that is open
start_is : (r : Reading) (bytes : List ℕ) → IsAfter r bytes → 1 + lines_in (joined (ended_lines bytes)) ≡ r.start
start_is r bytes h =
    let all = lines_in-joined (ended_lines bytes) in
    omega (arith, h.start, h.here)

-- one more joined line, which the open one ends
numbered-push : (r : Reading) (bytes : List ℕ) (cut : Cut) → IsAfter r bytes → cut_of (open_text bytes) ≡ cut → numbered 1 (joined (ended_lines bytes) ++ (unended (ended_lines bytes) ++ open_line bytes ∷ []) ∷ []) ≡ complete bytes ++ line_at r.start (finished cut)
unfolding complete
numbered-push r bytes cut h e =
    numbered-append 1 (joined (ended_lines bytes)) ((unended (ended_lines bytes) ++ open_line bytes ∷ []) ∷ [])
    ∙ ap (λ ls. numbered 1 (joined (ended_lines bytes)) ++ ls)
    (append-nil (line_at (1 + lines_in (joined (ended_lines bytes))) (words_of (texts (unended (ended_lines bytes) ++ open_line bytes ∷ []))))
    ∙ (ap (λ n. line_at n (words_of (texts (unended (ended_lines bytes) ++ open_line bytes ∷ [])))) (start_is r bytes h)
    ∙ ap (λ c. line_at r.start (finished c)) (ap cut_of (texts-push (unended (ended_lines bytes)) (open_line bytes)) ∙ e)))

-- a line feed there ends the joined line, or doesn't
ends_line-joins : (r : Reading) (bytes : List ℕ) → IsAfter r bytes → ends_line r.place ≡ not (joins (open_line bytes))
ends_line-joins r bytes h =
    ⊎_elim
    (λ (e : in_comment bytes ≡ true). ap ends_line (place-commented r bytes h e) ∙ sym (ap not (joins-commented (open_line bytes) e)))
    (λ (e : in_comment bytes ≡ false). ap ends_line (place-clear r bytes h e) ∙ (by_tail (tail_of (open_line bytes)) ∙ sym (ap not (joins-clear (open_line bytes) e))))
    (cases_Bool (in_comment bytes)) where
      by_tail : (tail : List ℕ) → ends_line (place_of_tail tail) ≡ not (not (is_empty tail))
      by_tail [] = refl
      by_tail (x ∷ []) = refl
      by_tail (x ∷ y ∷ tail) = refl

pub complete-stepped : (r : Reading) (bytes : List ℕ) (b : ℕ) → IsAfter r bytes → complete (bytes ++ b ∷ []) ≡ complete bytes ++ ended r b
unfolding complete ended
complete-stepped r bytes b h =
    let line = open_line bytes in
    let nothing : (t : Bool) → t ≡ false → numbered 1 (joined (ended_lines bytes)) ≡ numbered 1 (joined (ended_lines bytes)) ++ (if t then line_at r.start (finished r.cut) else []) = λ t e. sym (ap (λ ls. numbered 1 (joined (ended_lines bytes)) ++ ls) (cond-false t _ _ e) ∙ append-nil (numbered 1 (joined (ended_lines bytes)))) in
    ⊎_elim
    (λ (f : is_line_feed b ≡ true). (
    let lines : ended_lines (bytes ++ b ∷ []) ≡ ended_lines bytes ++ line ∷ [] = closed-end is_line_feed bytes b f in
    ⊎_elim
    (λ (goes : joins line ≡ true). (
    let goes_on : (is_line_feed b && ends_line r.place) ≡ false = and_right (is_line_feed b) (ends_line r.place) (ends_line-joins r bytes h ∙ not_from_true (joins line) goes) in
    ap (λ ls. numbered 1 (joined ls)) lines ∙ (ap (numbered 1) (joined-more (ended_lines bytes) line goes) ∙ nothing (is_line_feed b && ends_line r.place) goes_on)
    ))
    (λ (stops : joins line ≡ false). (
    let done : (is_line_feed b && ends_line r.place) ≡ true = and_from (is_line_feed b) (ends_line r.place) f (ends_line-joins r bytes h ∙ not_from_false (joins line) stops) in
    ap (λ ls. numbered 1 (joined ls)) lines
    ∙ (ap (numbered 1) (joined-end (ended_lines bytes) line stops)
    ∙ (numbered-push r bytes r.cut h (cut-ends r bytes h stops) ∙ sym (ap (λ ls. numbered 1 (joined (ended_lines bytes)) ++ ls) (cond-true (is_line_feed b && ends_line r.place) _ _ done))))
    ))
    (cases_Bool (joins line))
    ))
    (λ (n : is_line_feed b ≡ false). (
    let lines : ended_lines (bytes ++ b ∷ []) ≡ ended_lines bytes = closed-more is_line_feed bytes b n in
    ap (λ ls. numbered 1 (joined ls)) lines ∙ nothing (is_line_feed b && ends_line r.place) (and_left (is_line_feed b) (ends_line r.place) n)
    ))
    (cases_Bool (is_line_feed b))

-- at the end of the bytes the open line ends the last joined one
lines_of-cut : (r : Reading) (bytes : List ℕ) (cut : Cut) → IsAfter r bytes → cut_of (open_text bytes) ≡ cut → lines_of bytes ≡ complete bytes ++ line_at r.start (finished cut)
unfolding lines_of cut_of
lines_of-cut r bytes cut h e =
    let line = open_line bytes in
    let lines = ended_lines bytes in
    ⊎_elim
    (λ (goes : joins line ≡ true). (
    let all : all_joined (slice_split is_line_feed bytes) ≡ joined lines ++ (unended lines ++ line ∷ []) ∷ [] = ap all_joined (split_all is_line_feed bytes) ∙ rw (joined-more lines line goes, unended-more lines line goes) refl in
    ap (numbered 1) all ∙ numbered-push r bytes cut h e
    ))
    (λ (stops : joins line ≡ false). (
    let all : all_joined (slice_split is_line_feed bytes) ≡ (joined lines ++ (unended lines ++ line ∷ []) ∷ []) ++ [] ∷ [] = ap all_joined (split_all is_line_feed bytes) ∙ rw (joined-end lines line stops, unended-end lines line stops) refl in
    let groups = joined lines ++ (unended lines ++ line ∷ []) ∷ [] in
    ap (numbered 1) all ∙ (numbered-append 1 groups ([] ∷ []) ∙ (append-nil (numbered 1 groups) ∙ numbered-push r bytes cut h e))
    ))
    (cases_Bool (joins line))

-- ---- a piece of bytes

-- no lines are gained where no byte is read
gains_nothing : (r : Reading) (lines : List LexLine) (piece : List ℕ) → piece ≡ [] → GainsLines r lines lines (λ bytes. complete (bytes ++ piece))
gains_nothing r lines piece e = record {
  gained = [];
  added = sym (append-nil lines);
  adds_up = λ bytes h. rw (e, append-nil bytes) (sym (append-nil (complete bytes)));
}

pub HasRead-start : (r : Reading) (lines : List LexLine) (piece : List ℕ) → piece ≡ [] → HasRead r r lines lines piece
HasRead-start r lines piece e = record {
  after = λ bytes h. rw (e, append-nil bytes) h;
  lines = gains_nothing r lines piece e;
  limit = refl;
}

limit-text : (r : Reading) (b : ℕ) → (text_step r b).limit ≡ r.limit
unfolding text_step
limit-text r b =
    let P : Reading → Type 0 = λ s. s.limit ≡ r.limit in
    cond_both ((b == 13) && is_backslash r.place) _ _ P (λ _. refl) (λ _. cond_both (is_hash b) _ _ P (λ _. refl) (λ _. cond_both (b == 92) _ _ P (λ _. refl) (λ _. refl)))

limit-place : (r : Reading) (place : Place) (b : ℕ) → (place_step r place b).limit ≡ r.limit
limit-place r Text b = let P : Reading → Type 0 = λ s. s.limit ≡ r.limit in cond_both (is_line_feed b) _ _ P (λ _. refl) (λ _. limit-text r b)
limit-place r Backslash b = let P : Reading → Type 0 = λ s. s.limit ≡ r.limit in cond_both (is_line_feed b) _ _ P (λ _. refl) (λ _. limit-text r b)
limit-place r Return b = let P : Reading → Type 0 = λ s. s.limit ≡ r.limit in cond_both (is_line_feed b) _ _ P (λ _. refl) (λ _. limit-text r b)
limit-place r Comment b = let P : Reading → Type 0 = λ s. s.limit ≡ r.limit in cond_both (is_line_feed b) _ _ P (λ _. refl) (λ _. refl)

limit-stepped : (r : Reading) (b : ℕ) → (stepped r b).limit ≡ r.limit
unfolding stepped
limit-stepped r b = limit-place r r.place b

-- one byte read
gains_ended : (r : Reading) (before later : List LexLine) (b : ℕ) → later ≡ before ++ ended r b → GainsLines r before later (λ bytes. complete (bytes ++ b ∷ []))
gains_ended r before later b l = record { gained = ended r b; added = l; adds_up = λ bytes h. complete-stepped r bytes b h }

pub HasRead-byte : (r next : Reading) (before later : List LexLine) (b : ℕ) → fault_now r b ≡ None → next ≡ stepped r b → later ≡ before ++ ended r b → HasRead r next before later (b ∷ [])
HasRead-byte r next before later b none n l = record {
  after = λ bytes h. rw n (IsAfter-stepped r bytes b h none);
  lines = gains_ended r before later b l;
  limit = rw n (limit-stepped r b);
}

-- behind lines that were complete all of these then stand
pub gained_all : (r : Reading) (before after : List LexLine) (all : List ℕ → List LexLine) (bytes : List ℕ) → GainsLines r before after all → IsAfter r bytes → before ≡ complete bytes → after ≡ all bytes
gained_all r before after all bytes g h e = g.added ∙ (ap (λ ls. ls ++ g.gained) e ∙ sym (g.adds_up bytes h))

-- one piece read behind another: the gains add up
gains_append : (r s : Reading) (x y z : List LexLine) (front back : List ℕ) → ((bytes : List ℕ) → IsAfter r bytes → IsAfter s (bytes ++ front)) → GainsLines r x y (λ bytes. complete (bytes ++ front)) → GainsLines s y z (λ bytes. complete (bytes ++ back)) → GainsLines r x z (λ bytes. complete (bytes ++ (front ++ back)))
gains_append r s x y z front back after g k = record {
  gained = g.gained ++ k.gained;
  added = rw (k.added, g.added) (append_assoc x g.gained k.gained);
  adds_up = λ bytes h. rw (← append_assoc bytes front back, k.adds_up (bytes ++ front) (after bytes h), g.adds_up bytes h) (append_assoc (complete bytes) g.gained k.gained);
}

pub HasRead-append : (a b c : Reading) (x y z : List LexLine) (front back : List ℕ) → HasRead a b x y front → HasRead b c y z back → HasRead a c x z (front ++ back)
HasRead-append a b c x y z front back h k = record {
  after = λ bytes s. rw (← append_assoc bytes front back) (k.after (bytes ++ front) (h.after bytes s));
  lines = gains_append a b x y z front back h.after h.lines k.lines;
  limit = k.limit ∙ h.limit;
}

-- the fault of the byte that comes is the first of all
pub first_fault-met : (start now : Reading) (before later : List LexLine) (piece bytes : List ℕ) (i : ℕ) (f : LexFault) → HasRead start now before later (take i piece) → i < length piece → IsAfter start bytes → (f ≡ Memory) ⊎ (fault_now now (get_or piece i 0) ≡ Some f) → (f ≡ Memory) ⊎ (first_fault start.limit [] (bytes ++ piece) ≡ Some f)
first_fault-met start now before later piece bytes i f h below k (inl e) = inl e
first_fault-met start now before later piece bytes i f h below k (inr some) =
    let a = h.after bytes k in
    let b = get_or piece i 0 in
    let rest = drop (suc i) piece in
    let cut : piece ≡ take i piece ++ b ∷ rest = sym (take-append-drop i piece) ∙ ap (λ xs. take i piece ++ xs) (drop-cons piece i 0 below) in
    let told : first_fault start.limit [] (bytes ++ (take i piece ++ b ∷ rest)) ≡ Some f = rw (← append_assoc bytes (take i piece) (b ∷ rest), first_fault-append start.limit [] (bytes ++ take i piece) (b ∷ rest), ← h.limit, a.accepted, fault_at-now now (bytes ++ take i piece) b a, some) refl in
    inr (ap (λ xs. first_fault start.limit [] (bytes ++ xs)) cut ∙ told)

-- ---- the end of the bytes

-- the lexer keeps whether the next byte stands in a comment
comment_is : (r : Reading) (bytes : List ℕ) → IsAfter r bytes → is_comment r.place ≡ in_comment bytes
comment_is r bytes h =
    ⊎_elim
    (λ (e : in_comment bytes ≡ true). ap is_comment (place-commented r bytes h e) ∙ sym e)
    (λ (e : in_comment bytes ≡ false). ap is_comment (place-clear r bytes h e) ∙ (by_tail (tail_of (open_line bytes)) ∙ sym e))
    (cases_Bool (in_comment bytes)) where
      by_tail : (tail : List ℕ) → is_comment (place_of_tail tail) ≡ false
      by_tail [] = refl
      by_tail (x ∷ []) = refl
      by_tail (x ∷ y ∷ tail) = refl

-- the fault at the end is that of the words with the open line
pub end_fault-now : (r : Reading) (bytes : List ℕ) → IsAfter r bytes → end_fault bytes ≡ end_now r
unfolding end_fault end_now
end_fault-now r bytes h =
    let cut : Cut = with_bytes r.cut (blank_at r.place) in
    ap (λ t. if t then None else words_fault (line_number bytes) true (cut_of (open_text bytes))) (sym (comment_is r bytes h))
    ∙ ap (λ f. if is_comment r.place then None else f) (ap (words_fault (line_number bytes) true) (cut-open r bytes h)
    ∙ (words_fault-end (line_number bytes) cut
    ∙ (cond-false (has_long false cut) _ _ (short-open r bytes h) ∙ ap (λ l. end_fault_of l cut) (sym h.here))))

-- what the end adds to the lines that had ended gives all lines
pub finished_lines : (r : Reading) (before later : List LexLine) → later ≡ before ++ line_at r.start (finished (end_cut r)) → GainsLines r before later lines_of
unfolding end_cut
finished_lines r before later e = record {
  gained = line_at r.start (finished (with_bytes r.cut (blank_at r.place)));
  added = e;
  adds_up = λ bytes h. lines_of-cut r bytes (with_bytes r.cut (blank_at r.place)) h (cut-open r bytes h);
}

pub ruleset finishing = (end_fault-now, finished_lines)
