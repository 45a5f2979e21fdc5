-- Many letters of a word read at once, and a whole word, are read as one byte after the other.
use Rattle.std.proofs.Common.{◌≡◌, ℕ, ◌+◌, ◌<◌, ◌≤◌, ◌⊎◌, true, false, not, ◌&&◌, ◌||◌, ◌==◌, List, [], ◌∷◌, ◌++◌, length, take, drop, Some, None, if◌then◌else◌, refl, ap, sym, ◌∙◌, subst, arith, append_assoc, length-append, get_or, Bool, ⊎_elim}
use Rattle.std.specs.Prelude.{nat_le}
use Rattle.std.specs.List.{list_all}
use Rattle.std.proofs.lemmas.Bool.{cond-false, and_parts, and_left, and_right, or_cases, eqb-true, or_right, or_from, ne_eqb, leb-true, lt-leb, not-true, not_from_true}
use Rattle.std.proofs.lemmas.List.{append-nil}
use Rattle.std.proofs.Math.Seq.{take-add}
use Rattle.mv_base.specs.declared.limits.TheConstants.{MAX_WORD_BYTES, MAX_BRACKETED_BYTES}
use Rattle.mv_base.specs.Names.{is_visible}
use Rattle.mv_lex.specs.declared.lines.LexLine.{LexLine}
use Rattle.mv_lex.specs.declared.fault.LexFault.{LexFault}
use Rattle.mv_lex.specs.declared.fault.LexFault.TheVariants.{LongWord, Memory}
use Rattle.mv_lex.specs.declared.parts.Place.TheVariants.{Text}
use Rattle.mv_lex.specs.declared.parts.Kind.TheVariants.{Start, Plain}
use Rattle.mv_lex.specs.Words.{is_blank, opens, is_bang, nonempty, finished}
use Rattle.mv_lex.specs.Lines.{is_line_feed, is_hash, is_acceptable, line_at, first_fault}
use Rattle.mv_lex.specs.Reading.{Reading, IsAfter}
use Rattle.mv_lex.specs.Steps.{HasRead, is_letter, TakesLetters, with_letters, TakesWord, with_whole, IsBetween, begins_plain, begins_one, ends_plain, new_line, kind_end_fault, with_byte, long_with, kind_long, held, is_backslash, settled, with_bytes, long_with_bytes, long_fault, end_fault_of, ends_line, text_fault, place_fault, fault_now, text_step, place_step, stepped, ended}
use Rattle.mv_lex.proofs.Cutting.{cut_at, plain-solid, plain-blank, start-plain}
use Rattle.mv_lex.proofs.After.{HasRead-start, HasRead-byte, HasRead-append, first_fault-met}

-- what a byte that can be seen and begins no comment isn't
pub record IsWordByte (b : ℕ) : Type 0 where
  pub acceptable : is_acceptable b ≡ true
  pub blank : is_blank b ≡ false
  pub feed : is_line_feed b ≡ false
  pub hash : is_hash b ≡ false
  pub returns : (b == 13) ≡ false

pub word_byte : (b : ℕ) → (is_visible b && not (is_hash b)) ≡ true → IsWordByte b
word_byte b h =
    let p = and_parts (is_visible b) (not (is_hash b)) h in
    let low = leb-true 33 b (and_parts (nat_le 33 b) (nat_le b 126) p.0).0 in
    let r = ne_eqb b 13 (λ e. omega arith) in
    record {
      acceptable = or_right (is_line_feed b || is_blank b) (is_visible b) p.0;
      blank = or_from ((b == 32) || (b == 9)) (b == 13) (or_from (b == 32) (b == 9) (ne_eqb b 32 (λ e. omega arith)) (ne_eqb b 9 (λ e. omega arith))) r;
      feed = ne_eqb b 10 (λ e. omega arith);
      hash = not-true (is_hash b) p.1;
      returns = r;
    }

-- an ordinary byte of a text
pub record IsTextByte (b : ℕ) : Type 0 where
  pub acceptable : is_acceptable b ≡ true
  pub feed : is_line_feed b ≡ false
  pub hash : is_hash b ≡ false
  pub backslash : (b == 92) ≡ false

-- a letter is one, and no blank
letter_byte : (b : ℕ) → is_letter b ≡ true → IsTextByte b × (is_blank b ≡ false)
letter_byte b h =
    let p = and_parts (is_visible b && not (is_hash b)) (not (b == 92)) h in
    let is = word_byte b p.0 in
    (record { acceptable = is.acceptable; feed = is.feed; hash = is.hash; backslash = not-true (b == 92) p.1 }, is.blank)

blank_byte : (b : ℕ) → is_blank b ≡ true → IsTextByte b
blank_byte b h =
    let P : ℕ → Type 0 = IsTextByte in
    ⊎_elim
    (λ (l : ((b == 32) || (b == 9)) ≡ true). ⊎_elim
    (λ (e : (b == 32) ≡ true). subst P (sym (eqb-true b 32 e)) (record { acceptable = refl; feed = refl; hash = refl; backslash = refl }))
    (λ (e : (b == 9) ≡ true). subst P (sym (eqb-true b 9 e)) (record { acceptable = refl; feed = refl; hash = refl; backslash = refl }))
    (or_cases (b == 32) (b == 9) l))
    (λ (e : (b == 13) ≡ true). subst P (sym (eqb-true b 13 e)) (record { acceptable = refl; feed = refl; hash = refl; backslash = refl }))
    (or_cases ((b == 32) || (b == 9)) (b == 13) h)

-- it has no fault where it makes no word too long, and goes to the text
module _ (r : Reading) (b : ℕ) (is : IsTextByte b) (place : r.place ≡ Text) (within : r.size < r.limit) (short : long_with r.cut b ≡ false) where
  below : nat_le r.limit r.size ≡ false
  below = lt-leb r.limit r.size within

  settled-same : settled r ≡ r.cut
  unfolding settled
  settled-same = ap (λ p. with_bytes r.cut (held p)) place

  no_backslash : ((b == 13) && is_backslash r.place) ≡ false
  no_backslash = and_right (b == 13) (is_backslash r.place) (ap is_backslash place)

  byte_fault : fault_now r b ≡ None
  unfolding fault_now text_fault
  byte_fault =
      cond-false (nat_le r.limit r.size) _ _ below
      ∙ (ap (λ p. place_fault r p b) place
      ∙ (cond-false (is_line_feed b) _ _ is.feed
      ∙ (cond-false (not (is_acceptable b)) _ _ (not_from_true (is_acceptable b) is.acceptable)
      ∙ (cond-false ((b == 13) && is_backslash r.place) _ _ no_backslash
      ∙ (ap (λ p. if long_with_bytes r.cut (held p) then Some (LongWord r.here) else (if is_hash b then end_fault_of r.here (settled r) else long_fault r.here (long_with (settled r) (if b == 92 then 32 else b)))) place
      ∙ (cond-false (is_hash b) _ _ is.hash
      ∙ (ap (λ x. long_fault r.here (long_with (settled r) x)) (cond-false (b == 92) 32 b is.backslash)
      ∙ (ap (λ c. long_fault r.here (long_with c b)) settled-same ∙ ap (long_fault r.here) short))))))))

  byte_step : record r { size = r.size + 1; cut = with_byte r.cut b } ≡ stepped r b
  unfolding stepped text_step
  byte_step =
      sym (ap (λ p. place_step r p b) place
      ∙ (cond-false (is_line_feed b) _ _ is.feed
      ∙ (cond-false ((b == 13) && is_backslash r.place) _ _ no_backslash
      ∙ (cond-false (is_hash b) _ _ is.hash
      ∙ (cond-false (b == 92) _ _ is.backslash
      ∙ (ap (λ p. record r { size = r.size + 1; place = p; cut = with_byte (settled r) b }) (sym place) ∙ ap (λ c. record r { size = r.size + 1; cut = with_byte c b }) settled-same))))))

  byte_ended : ended r b ≡ []
  unfolding ended
  byte_ended = cond-false (is_line_feed b && ends_line r.place) _ _ (and_left (is_line_feed b) (ends_line r.place) is.feed)

  byte_read : (next : Reading) (lines : List LexLine) → next ≡ record r { size = r.size + 1; cut = with_byte r.cut b } → HasRead r next lines lines (b ∷ [])
  byte_read next lines e = HasRead-byte r next lines lines b byte_fault (e ∙ byte_step) (sym (ap (λ ls. lines ++ ls) byte_ended ∙ append-nil lines))

-- a letter goes to its word
module _ (r : Reading) (b : ℕ) (more : List ℕ) (h : TakesLetters r (b ∷ more)) where
  parts : (is_letter b ≡ true) × (list_all is_letter more ≡ true)
  parts = and_parts (is_letter b) (list_all is_letter more) h.all

  short : nat_le MAX_WORD_BYTES (length r.cut.word) ≡ false
  short = let s = h.short in lt-leb MAX_WORD_BYTES (length r.cut.word) (omega arith)

  long_letter : long_with r.cut b ≡ false
  unfolding long_with
  long_letter = let is = letter_byte b parts.0 in ap (λ k. kind_long (length r.cut.word) k b) h.kind ∙ rw (is.1, short) refl

  letter_cut : with_byte r.cut b ≡ record r.cut { word = r.cut.word ++ b ∷ [] }
  letter_cut =
      ap (λ k. with_byte (cut_at r.cut.words r.cut.word k) b) h.kind ∙ (plain-solid r.cut.words r.cut.word b (letter_byte b parts.0).1 ∙ ap (cut_at r.cut.words (r.cut.word ++ b ∷ [])) (sym h.kind))

  letter_read : (lines : List LexLine) → HasRead r (with_letters r (b ∷ [])) lines lines (b ∷ [])
  letter_read lines =
      let w = h.within in
      byte_read r b (letter_byte b parts.0).0 h.place (omega arith) long_letter (with_letters r (b ∷ [])) lines (ap (λ c. record r { size = r.size + 1; cut = c }) (sym letter_cut))

  more_letters : TakesLetters (with_letters r (b ∷ [])) more
  more_letters =
      let longer : length (r.cut.word ++ b ∷ []) ≡ length r.cut.word + 1 = length-append r.cut.word (b ∷ []) in
      record {
        place = h.place;
        kind = h.kind;
        all = parts.1;
        short = omega (arith, h.short, longer);
        within = omega (arith, h.within);
      }

-- ---- a piece

-- many letters
pub letters_read : (r : Reading) (lines : List LexLine) (letters : List ℕ) → TakesLetters r letters → HasRead r (with_letters r letters) lines lines letters
letters_read r lines [] h =
    let same : r ≡ with_letters r [] = ap (λ n. record r { size = n }) (add_nothing r.size) ∙ ap (λ w. record r { size = r.size + 0; cut = record r.cut { word = w } }) (sym (append-nil r.cut.word)) in
    subst (λ (s : Reading). HasRead r s lines lines []) same (HasRead-start r lines [] refl) where
      add_nothing : (n : ℕ) → n ≡ n + 0
      add_nothing n = omega arith
letters_read r lines (b ∷ more) h =
    let one = letter_read r b more h lines in
    let rest = letters_read (with_letters r (b ∷ [])) lines more (more_letters r b more h) in
    let size : (r.size + 1) + length more ≡ r.size + length (b ∷ more) = omega arith in
    let same : with_letters (with_letters r (b ∷ [])) more ≡ with_letters r (b ∷ more) = ap (λ n. record r { size = n; cut = record r.cut { word = (r.cut.word ++ b ∷ []) ++ more } }) size ∙ ap (λ w. record r { size = r.size + length (b ∷ more); cut = record r.cut { word = w } }) (append_assoc r.cut.word (b ∷ []) more) in
    subst (λ (s : Reading). HasRead r s lines lines (b ∷ more)) same (HasRead-append r (with_letters r (b ∷ [])) (with_letters (with_letters r (b ∷ [])) more) lines lines lines (b ∷ []) more one rest)

-- the state behind a whole word that goes on
abbrev begun : Reading → List ℕ → Reading
begun r word = record r { size = r.size + length word; cut = cut_at r.cut.words word Plain }

begun_read : (r : Reading) (lines : List LexLine) (word : List ℕ) → TakesWord r word → HasRead r (begun r word) lines lines word
unfolding long_with
begun_read r lines [] h = let e = h.begins in cc
begun_read r lines (b ∷ more) h =
    let parts = and_parts (is_letter b) (list_all is_letter more) h.all in
    let first = and_parts (not (opens b)) (not (is_bang b)) h.begins in
    let is = letter_byte b parts.0 in
    let w = h.within in
    let s = h.short in
    let empty : r.cut ≡ cut_at r.cut.words [] Start = ap (λ k. cut_at r.cut.words r.cut.word k) h.kind ∙ ap (λ v. cut_at r.cut.words v Start) h.none in
    let cut : with_byte r.cut b ≡ cut_at r.cut.words (b ∷ []) Plain = ap (λ c. with_byte c b) empty ∙ start-plain r.cut.words [] b is.1 (not-true (opens b) first.0) (not-true (is_bang b) first.1) in
    let one = byte_read r b is.0 h.place (omega arith) (ap (λ c. long_with c b) empty ∙ short_first r.cut.words b is.1) (begun r (b ∷ [])) lines (ap (λ c. record r { size = r.size + 1; cut = c }) (sym cut)) in
    let rest = letters_read (begun r (b ∷ [])) lines more (record { place = h.place; kind = refl; all = parts.1; short = omega arith; within = omega arith }) in
    let size : (r.size + 1) + length more ≡ r.size + length (b ∷ more) = omega arith in
    let same : with_letters (begun r (b ∷ [])) more ≡ begun r (b ∷ more) = ap (λ n. record r { size = n; cut = cut_at r.cut.words (b ∷ more) Plain }) size in
    subst (λ (s : Reading). HasRead r s lines lines (b ∷ more)) same (HasRead-append r (begun r (b ∷ [])) (with_letters (begun r (b ∷ [])) more) lines lines lines (b ∷ []) more one rest) where
      limit_first : (t : Bool) → nat_le (if t then MAX_BRACKETED_BYTES else MAX_WORD_BYTES) 0 ≡ false
      limit_first true = lt-leb MAX_BRACKETED_BYTES 0 (omega arith)
      limit_first false = lt-leb MAX_WORD_BYTES 0 (omega arith)

      -- no first byte makes a word too long
      short_first : (words : List (List ℕ)) (b : ℕ) → is_blank b ≡ false → long_with (cut_at words [] Start) b ≡ false
      short_first words b e = cond-false (is_blank b) _ _ e ∙ limit_first (opens b || is_bang b)

-- a whole word and the blank that ends it
pub blank_ends : (r next : Reading) (lines : List LexLine) (word : List ℕ) (b : ℕ) → TakesWord r word → is_blank b ≡ true → next ≡ record (with_whole r word) { size = (with_whole r word).size + 1 } → HasRead r next lines lines (word ++ b ∷ [])
unfolding long_with
blank_ends r next lines word b h e n =
    let long : long_with (cut_at r.cut.words word Plain) b ≡ false = long_blank r.cut.words word b e in
    let cut = plain-blank r.cut.words word b e in
    let last = byte_read (begun r word) b (blank_byte b e) h.place h.within long next lines (n ∙ ap (λ c. record r { size = (r.size + length word) + 1; cut = c }) (sym cut)) in
    HasRead-append r (begun r word) next lines lines lines word (b ∷ []) (begun_read r lines word h) last where
      long_blank : (words : List (List ℕ)) (word : List ℕ) (b : ℕ) → is_blank b ≡ true → long_with (cut_at words word Plain) b ≡ false
      long_blank words word b e = rw e refl

-- a word of one byte and the space behind it, where they stand at the front of what comes
pub one_long : (bytes : List ℕ) → begins_one bytes ≡ true → 2 ≤ length bytes
one_long [] h = cc
one_long (_ ∷ []) h = cc
one_long (b ∷ end ∷ more) h = omega arith

pub one_taken : (r : Reading) (bytes : List ℕ) → IsBetween r bytes → begins_one bytes ≡ true → TakesWord r (take 1 bytes)
one_taken r [] h e = cc
one_taken r (_ ∷ []) h e = cc
one_taken r (b ∷ end ∷ more) h e =
    let outer = and_parts ((end == 32) && begins_plain (b ∷ [])) (is_letter b) e in
    let inner = and_parts (end == 32) (begins_plain (b ∷ [])) outer.0 in
    record {
      place = h.place;
      kind = h.kind;
      none = h.none;
      begins = inner.1;
      all = rw outer.1 refl;
      short = omega arith;
      within = omega (arith, h.within);
    }

-- the state behind them
abbrev pub behind_one : Reading → List ℕ → Reading
behind_one r bytes = record (with_whole r (take 1 bytes)) { size = (with_whole r (take 1 bytes)).size + 1 }

pub one_read : (r next : Reading) (lines : List LexLine) (bytes : List ℕ) → IsBetween r bytes → begins_one bytes ≡ true → next ≡ behind_one r bytes → HasRead r next lines lines (take 2 bytes)
one_read r next lines [] h e n = cc
one_read r next lines (_ ∷ []) h e n = cc
one_read r next lines (b ∷ end ∷ more) h e n =
    let outer = and_parts ((end == 32) && begins_plain (b ∷ [])) (is_letter b) e in
    let inner = and_parts (end == 32) (begins_plain (b ∷ [])) outer.0 in
    blank_ends r next lines (b ∷ []) end (one_taken r (b ∷ end ∷ more) h e) (rw inner.0 refl) n

pub one_between : (r : Reading) (bytes : List ℕ) → IsBetween r bytes → begins_one bytes ≡ true → IsBetween (behind_one r bytes) (drop 2 bytes)
one_between r [] h e = cc
one_between r (_ ∷ []) h e = cc
one_between r (b ∷ end ∷ more) h e = record { place = h.place; kind = refl; none = refl; within = omega (arith, h.within) }

-- what ends a word and is no line feed is a blank
pub ends_blank : (b : ℕ) → ends_plain b ≡ true → (b ≡ 10 → ⊥) → is_blank b ≡ true
ends_blank b h other =
    ⊎_elim (λ (e : is_line_feed b ≡ true). absurd (other (eqb-true b 10 e))) (λ (e : is_blank b ≡ true). e) (or_cases (is_line_feed b) (is_blank b) h)

-- a whole word and the line feed that ends it, and the line
pub feed_ends_word : (r next : Reading) (before later : List LexLine) (word : List ℕ) (b : ℕ) → TakesWord r word → b ≡ 10 → next ≡ new_line (with_whole r word) → later ≡ before ++ line_at r.start (finished (with_whole r word).cut) → HasRead r next before later (word ++ b ∷ [])
unfolding fault_now end_fault_of stepped ended
feed_ends_word r next before later word b h e n l =
    let all : (with_whole r word).cut.words ++ [] ≡ finished (begun r word).cut = append-nil (r.cut.words ++ nonempty (word ∷ [])) in
    let told = l ∙ ap (λ ws. before ++ line_at r.start ws) all in
    let last = HasRead-byte (begun r word) next before later 10 (fault (begun r word) h.place h.within refl) (n ∙ step (begun r word) h.place) (told ∙ ap (λ ls. before ++ ls) (line (begun r word) h.place)) in
    rw e (HasRead-append r (begun r word) next before before later word (10 ∷ []) (begun_read r before word h) last) where
      fault : (s : Reading) → s.place ≡ Text → s.size < s.limit → s.cut.kind ≡ Plain → fault_now s 10 ≡ None
      fault s p w k = cond-false (nat_le s.limit s.size) _ _ (lt-leb s.limit s.size w) ∙ (ap (λ q. place_fault s q 10) p ∙ ap (kind_end_fault s.here (length s.cut.word)) k)

      step : (s : Reading) → s.place ≡ Text → new_line s ≡ stepped s 10
      step s p = sym (ap (λ q. place_step s q 10) p)

      line : (s : Reading) → s.place ≡ Text → line_at s.start (finished s.cut) ≡ ended s 10
      line s p = sym (ap (λ q. if is_line_feed 10 && ends_line q then line_at s.start (finished s.cut) else []) p)

take_one : (xs : List ℕ) → 0 < length xs → take 1 xs ≡ get_or xs 0 0 ∷ []
take_one [] h = absurd (omega arith)
take_one (x ∷ xs) h = refl

-- the first byte of a rest, or its fault
pub first_read : (r next : Reading) (before later : List LexLine) (rest : List ℕ) → 0 < length rest → fault_now r (get_or rest 0 0) ≡ None → next ≡ stepped r (get_or rest 0 0) → later ≡ before ++ ended r (get_or rest 0 0) → HasRead r next before later (take 1 rest)
first_read r next before later rest some none n l = rw (take_one rest some) (HasRead-byte r next before later (get_or rest 0 0) none n l)

pub first_told : (r : Reading) (rest bytes : List ℕ) (f : LexFault) → 0 < length rest → IsAfter r bytes → (f ≡ Memory) ⊎ (fault_now r (get_or rest 0 0) ≡ Some f) → (f ≡ Memory) ⊎ (first_fault r.limit [] (bytes ++ rest) ≡ Some f)
first_told r rest bytes f some h told = first_fault-met r r [] [] rest bytes 0 f (HasRead-start r [] (take 0 rest) refl) some h told

-- ---- the loop over a piece

-- so many bytes more
pub piece_more : (start now next : Reading) (before later last : List LexLine) (piece : List ℕ) (at count : ℕ) → HasRead start now before later (take at piece) → HasRead now next later last (take count (drop at piece)) → HasRead start next before last (take (at + count) piece)
piece_more start now next before later last piece at count h k =
    rw (take-add at count piece) (HasRead-append start now next before later last (take at piece) (take count (drop at piece)) h k)
