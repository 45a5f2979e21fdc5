-- Words that are too long, when one more byte comes.
use Rattle.std.proofs.Common.{◌≡◌, ◌+◌, ◌≤◌, ℕ, Bool, true, false, not, ◌&&◌, ◌||◌, ◌==◌, List, [], ◌∷◌, ◌++◌, length, Some, None, if◌then◌else◌, refl, ap, sym, ◌∙◌, subst, arith, ⊎_elim, length-append}
use Rattle.std.specs.Prelude.{nat_lt, nat_le}
use Rattle.std.specs.List.{list_all, list_any}
use Rattle.std.proofs.lemmas.Bool.{cases_Bool, cond-true, cond-false, and_parts, and_from, or_parts, or_from, or_left, or_right, or_cases, ltb-true, lt-ltb, le-ltb, leb-true, leb-false, le-leb, not_from_false, false≢true}
use Rattle.std.proofs.Math.Bool.{or-false}
use Rattle.std.proofs.lemmas.List.{append-nil}
use Rattle.std.proofs.lemmas.List.Folds.{list_all-append, list_any-append}
use Rattle.mv_base.specs.Names.{is_bracketed}
use Rattle.mv_base.specs.declared.limits.TheConstants.{MAX_WORD_BYTES, MAX_BRACKETED_BYTES}
use Rattle.mv_lex.specs.declared.parts.Kind.{Kind}
use Rattle.mv_lex.specs.declared.parts.Kind.TheVariants.{Start, Plain, Bracketed}
use Rattle.mv_lex.specs.declared.parts.Place.{Place}
use Rattle.mv_lex.specs.declared.parts.Place.TheVariants.{Text, Backslash, Return, Comment}
use Rattle.mv_lex.specs.declared.fault.LexFault.TheVariants.{LongWord, OpenBracket}
use Rattle.mv_lex.specs.Words.{is_blank, is_bang, opens, Cut, no_words, cut_of, nonempty, finished, is_long, most_bytes, has_long, waits}
use Rattle.mv_lex.specs.Lines.{words_fault}
use Rattle.mv_lex.specs.Steps.{ended_word, with_byte, with_bytes, long_with, long_with_bytes, kind_long, kind_end_fault, end_fault_of, held, blank_at}
use Rattle.mv_lex.proofs.Cutting.{cut_at, opens-bang, start-blank, start-opens, start-bang, start-plain, plain-blank, plain-solid, bracketed-blank, bracketed-end, bracketed-solid, nonempty-some, cut_of-bytes}

-- ---- what the word at the end is

-- behind its `!` the word has a byte that is no bracket
abbrev starts_plain : List ℕ → Bool
starts_plain [] = false
starts_plain (b ∷ word) = if is_bang b then starts_plain word else not (opens b)

-- the word is of this kind
abbrev IsOfKind : List ℕ → Kind → Type 0
IsOfKind word Start = list_all is_bang word ≡ true
IsOfKind word Plain = starts_plain word ≡ true
IsOfKind word (Bracketed _) = is_bracketed word ≡ true

-- a test of the first byte that isn't `!` goes on where bytes are added
starts_plain-append : (word more : List ℕ) → starts_plain word ≡ true → starts_plain (word ++ more) ≡ true
starts_plain-append [] more e = cc
starts_plain-append (b ∷ word) more e =
    ⊎_elim
    (λ (h : is_bang b ≡ true). cond-true (is_bang b) _ _ h ∙ starts_plain-append word more (sym (cond-true (is_bang b) _ _ h) ∙ e))
    (λ (h : is_bang b ≡ false). cond-false (is_bang b) _ _ h ∙ (sym (cond-false (is_bang b) _ _ h) ∙ e))
    (cases_Bool (is_bang b))

starts_plain-bangs : (bangs : List ℕ) (b : ℕ) → list_all is_bang bangs ≡ true → opens b ≡ false → is_bang b ≡ false → starts_plain (bangs ++ b ∷ []) ≡ true
starts_plain-bangs [] b e o n = cond-false (is_bang b) _ _ n ∙ not_from_false (opens b) o
starts_plain-bangs (c ∷ bangs) b e o n =
    let both = and_parts (is_bang c) (list_all is_bang bangs) e in
    cond-true (is_bang c) _ _ both.0 ∙ starts_plain-bangs bangs b both.1 o n

is_bracketed-append : (word more : List ℕ) → is_bracketed word ≡ true → is_bracketed (word ++ more) ≡ true
is_bracketed-append [] more e = cc
is_bracketed-append (b ∷ word) more e =
    ⊎_elim
    (λ (h : ((b == 40) || (b == 123)) ≡ true). or_left ((b == 40) || (b == 123)) ((b == 33) && is_bracketed (word ++ more)) h)
    (λ (h : ((b == 33) && is_bracketed word) ≡ true). (
    let both = and_parts (b == 33) (is_bracketed word) h in
    or_right ((b == 40) || (b == 123)) ((b == 33) && is_bracketed (word ++ more)) (and_from (b == 33) (is_bracketed (word ++ more)) both.0 (is_bracketed-append word more both.1))
    ))
    (or_cases ((b == 40) || (b == 123)) ((b == 33) && is_bracketed word) e)

is_bracketed-bangs : (bangs : List ℕ) (b : ℕ) → list_all is_bang bangs ≡ true → opens b ≡ true → is_bracketed (bangs ++ b ∷ []) ≡ true
is_bracketed-bangs [] b e o = or_left (opens b) ((b == 33) && false) o
is_bracketed-bangs (c ∷ bangs) b e o =
    let both = and_parts (is_bang c) (list_all is_bang bangs) e in
    or_right (opens c) ((c == 33) && is_bracketed (bangs ++ b ∷ [])) (and_from (c == 33) (is_bracketed (bangs ++ b ∷ [])) both.0 (is_bracketed-bangs bangs b both.1 o))

not_bracketed-bangs : (bangs : List ℕ) → list_all is_bang bangs ≡ true → is_bracketed bangs ≡ false
not_bracketed-bangs [] e = refl
not_bracketed-bangs (c ∷ bangs) e =
    let both = and_parts (is_bang c) (list_all is_bang bangs) e in
    or_from (opens c) ((c == 33) && is_bracketed bangs) (opens-bang c both.0) (rw (both.0, not_bracketed-bangs bangs both.1) refl)

not_bracketed-plain : (word : List ℕ) → starts_plain word ≡ true → is_bracketed word ≡ false
not_bracketed-plain [] e = refl
not_bracketed-plain (c ∷ word) e =
    ⊎_elim
    (λ (h : is_bang c ≡ true). or_from (opens c) ((c == 33) && is_bracketed word) (opens-bang c h) (rw (h, not_bracketed-plain word (sym (cond-true (is_bang c) _ _ h) ∙ e)) refl))
    (λ (h : is_bang c ≡ false). or_from (opens c) ((c == 33) && is_bracketed word) (not_true_false (opens c) (sym (cond-false (is_bang c) _ _ h) ∙ e)) (rw h refl))
    (cases_Bool (is_bang c)) where
      not_true_false : (t : Bool) → not t ≡ true → t ≡ false
      not_true_false true e = cc
      not_true_false false e = refl

-- ---- one more byte keeps the kind

-- a cut whose last word is of its kind
pub record IsKnown (cut : Cut) : Type 0 where
  pub known : IsOfKind cut.word cut.kind

known_at : (words : List (List ℕ)) (word : List ℕ) (kind : Kind) (b : ℕ) → IsOfKind word kind → IsKnown (with_byte (cut_at words word kind) b)
known_at words word Start b k =
    ⊎_elim
    (λ (s : is_blank b ≡ true). subst IsKnown (sym (start-blank words word b s)) (record { known = refl }))
    (λ (s : is_blank b ≡ false). ⊎_elim
    (λ (o : opens b ≡ true). subst IsKnown (sym (start-opens words word b o)) (record { known = is_bracketed-bangs word b k o }))
    (λ (o : opens b ≡ false). ⊎_elim
    (λ (h : is_bang b ≡ true). subst IsKnown (sym (start-bang words word b h)) (record { known = list_all-append is_bang word (b ∷ []) ∙ and_from (list_all is_bang word) (is_bang b && true) k (and_from (is_bang b) true h refl) }))
    (λ (h : is_bang b ≡ false). subst IsKnown (sym (start-plain words word b s o h)) (record { known = starts_plain-bangs word b k o h }))
    (cases_Bool (is_bang b)))
    (cases_Bool (opens b)))
    (cases_Bool (is_blank b))
known_at words word Plain b k =
    ⊎_elim
    (λ (s : is_blank b ≡ true). subst IsKnown (sym (plain-blank words word b s)) (record { known = refl }))
    (λ (s : is_blank b ≡ false). subst IsKnown (sym (plain-solid words word b s)) (record { known = starts_plain-append word (b ∷ []) k }))
    (cases_Bool (is_blank b))
known_at words word (Bracketed end) b k =
    ⊎_elim
    (λ (s : is_blank b ≡ true). subst IsKnown (sym (bracketed-blank words word end b s)) (record { known = k }))
    (λ (s : is_blank b ≡ false). ⊎_elim
    (λ (e : (b == end) ≡ true). subst IsKnown (sym (bracketed-end words word end b s e)) (record { known = refl }))
    (λ (e : (b == end) ≡ false). subst IsKnown (sym (bracketed-solid words word end b s e)) (record { known = is_bracketed-append word (b ∷ []) k }))
    (cases_Bool (b == end)))
    (cases_Bool (is_blank b))

pub IsKnown-byte : (cut : Cut) (b : ℕ) → IsKnown cut → IsKnown (with_byte cut b)
IsKnown-byte cut b k = known_at cut.words cut.word cut.kind b k.known

pub IsKnown-bytes : (cut : Cut) (bs : List ℕ) → IsKnown cut → IsKnown (with_bytes cut bs)
IsKnown-bytes cut [] k = k
IsKnown-bytes cut (b ∷ bs) k = IsKnown-bytes (with_byte cut b) bs (IsKnown-byte cut b k)

pub IsKnown-cut : (text : List ℕ) → IsKnown (cut_of text)
IsKnown-cut text = subst IsKnown (sym (cut_of-bytes text)) (IsKnown-bytes no_words text (record { known = refl }))

-- ---- one more byte makes a word too long

or_flat : (s t : Bool) → ((s || (t || false)) || false) ≡ (s || t)
or_flat true t = refl
or_flat false true = refl
or_flat false false = refl

-- a word that has ended is too long, or one before it
has_long-ended : (words : List (List ℕ)) (word : List ℕ) → has_long false (ended_word words word) ≡ (list_any is_long words || is_long word)
has_long-ended words [] = rw (append-nil words) refl
has_long-ended words (b ∷ word) =
    ap (λ ns. list_any is_long (words ++ ns) || false) (nonempty-some (b ∷ word) (λ e. cc))
    ∙ (ap (λ t. t || false) (list_any-append is_long words ((b ∷ word) ∷ [])) ∙ or_flat (list_any is_long words) (is_long (b ∷ word)))

nat_lt-push : (most : ℕ) (word : List ℕ) (b : ℕ) → nat_lt most (length (word ++ b ∷ [])) ≡ nat_le most (length word)
nat_lt-push most word b =
    let n : length (word ++ b ∷ []) ≡ length word + 1 = length-append word (b ∷ []) in
    ⊎_elim
    (λ (h : nat_le most (length word) ≡ true). let l = leb-true most (length word) h in lt-ltb most (length (word ++ b ∷ [])) (omega arith) ∙ sym h)
    (λ (h : nat_le most (length word) ≡ false). let l = leb-false most (length word) h in le-ltb most (length (word ++ b ∷ [])) (omega arith) ∙ sym h)
    (cases_Bool (nat_le most (length word)))

is_long-plain : (word : List ℕ) → is_bracketed word ≡ false → is_long word ≡ nat_lt MAX_WORD_BYTES (length word)
is_long-plain word e = ap (λ n. nat_lt n (length word)) (cond-false (is_bracketed word) _ _ e)

is_long-bracketed : (word : List ℕ) → is_bracketed word ≡ true → is_long word ≡ nat_lt MAX_BRACKETED_BYTES (length word)
is_long-bracketed word e = ap (λ n. nat_lt n (length word)) (cond-true (is_bracketed word) _ _ e)

-- the limit of the last word with this byte is passed, by how many bytes it had
abbrev long_after : ℕ → Kind → ℕ → Bool
long_after size Start b = if is_blank b then nat_lt MAX_WORD_BYTES size else nat_le (if opens b || is_bang b then MAX_BRACKETED_BYTES else MAX_WORD_BYTES) size
long_after size Plain b = if is_blank b then nat_lt MAX_WORD_BYTES size else nat_le MAX_WORD_BYTES size
long_after size (Bracketed _) b = if is_blank b then nat_lt MAX_BRACKETED_BYTES size else nat_le MAX_BRACKETED_BYTES size

-- behind a blank, and behind another byte
after_blank : (most other size : ℕ) (b : ℕ) → is_blank b ≡ true → nat_lt most size ≡ (if is_blank b then nat_lt most size else nat_le other size)
after_blank most other size b e = sym (cond-true (is_blank b) _ _ e)

after_solid : (most other : ℕ) (word : List ℕ) (b : ℕ) → is_blank b ≡ false → nat_lt other (length (word ++ b ∷ [])) ≡ (if is_blank b then nat_lt most (length word) else nat_le other (length word))
after_solid most other word b e = nat_lt-push other word b ∙ sym (cond-false (is_blank b) _ _ e)

has_long-at : (words : List (List ℕ)) (word : List ℕ) (kind : Kind) (b : ℕ) → IsOfKind word kind → has_long false (with_byte (cut_at words word kind) b) ≡ (list_any is_long words || long_after (length word) kind b)
has_long-at words word Start b k =
    ⊎_elim
    (λ (s : is_blank b ≡ true). (
    ap (has_long false) (start-blank words word b s)
    ∙ (has_long-ended words word ∙ ap (λ t. list_any is_long words || t) (is_long-plain word (not_bracketed-bangs word k) ∙ after_blank MAX_WORD_BYTES (if opens b || is_bang b then MAX_BRACKETED_BYTES else MAX_WORD_BYTES) (length word) b s))
    ))
    (λ (s : is_blank b ≡ false). ⊎_elim
    (λ (o : opens b ≡ true). (
    let most : MAX_BRACKETED_BYTES ≡ (if opens b || is_bang b then MAX_BRACKETED_BYTES else MAX_WORD_BYTES) = sym (cond-true (opens b || is_bang b) _ _ (or_left (opens b) (is_bang b) o)) in
    ap (has_long false) (start-opens words word b o)
    ∙ ap (λ t. list_any is_long words || t) (ap (λ m. nat_lt m (length (word ++ b ∷ []))) most ∙ after_solid MAX_WORD_BYTES (if opens b || is_bang b then MAX_BRACKETED_BYTES else MAX_WORD_BYTES) word b s)
    ))
    (λ (o : opens b ≡ false). ⊎_elim
    (λ (h : is_bang b ≡ true). (
    let most : MAX_BRACKETED_BYTES ≡ (if opens b || is_bang b then MAX_BRACKETED_BYTES else MAX_WORD_BYTES) = sym (cond-true (opens b || is_bang b) _ _ (or_right (opens b) (is_bang b) h)) in
    ap (has_long false) (start-bang words word b h)
    ∙ ap (λ t. list_any is_long words || t) (ap (λ m. nat_lt m (length (word ++ b ∷ []))) most ∙ after_solid MAX_WORD_BYTES (if opens b || is_bang b then MAX_BRACKETED_BYTES else MAX_WORD_BYTES) word b s)
    ))
    (λ (h : is_bang b ≡ false). (
    let most : MAX_WORD_BYTES ≡ (if opens b || is_bang b then MAX_BRACKETED_BYTES else MAX_WORD_BYTES) = sym (cond-false (opens b || is_bang b) _ _ (or_from (opens b) (is_bang b) o h)) in
    ap (has_long false) (start-plain words word b s o h)
    ∙ ap (λ t. list_any is_long words || t) (ap (λ m. nat_lt m (length (word ++ b ∷ []))) most ∙ after_solid MAX_WORD_BYTES (if opens b || is_bang b then MAX_BRACKETED_BYTES else MAX_WORD_BYTES) word b s)
    ))
    (cases_Bool (is_bang b)))
    (cases_Bool (opens b)))
    (cases_Bool (is_blank b))
has_long-at words word Plain b k =
    ⊎_elim
    (λ (s : is_blank b ≡ true). (
    ap (has_long false) (plain-blank words word b s)
    ∙ (has_long-ended words word ∙ ap (λ t. list_any is_long words || t) (is_long-plain word (not_bracketed-plain word k) ∙ after_blank MAX_WORD_BYTES MAX_WORD_BYTES (length word) b s))
    ))
    (λ (s : is_blank b ≡ false). ap (has_long false) (plain-solid words word b s) ∙ ap (λ t. list_any is_long words || t) (after_solid MAX_WORD_BYTES MAX_WORD_BYTES word b s))
    (cases_Bool (is_blank b))
has_long-at words word (Bracketed end) b k =
    ⊎_elim
    (λ (s : is_blank b ≡ true). ap (has_long false) (bracketed-blank words word end b s) ∙ ap (λ t. list_any is_long words || t) (after_blank MAX_BRACKETED_BYTES MAX_BRACKETED_BYTES (length word) b s))
    (λ (s : is_blank b ≡ false). ⊎_elim
    (λ (e : (b == end) ≡ true). (
    ap (has_long false) (bracketed-end words word end b s e)
    ∙ (has_long-ended words (word ++ b ∷ []) ∙ ap (λ t. list_any is_long words || t) (is_long-bracketed (word ++ b ∷ []) (is_bracketed-append word (b ∷ []) k) ∙ after_solid MAX_BRACKETED_BYTES MAX_BRACKETED_BYTES word b s))
    ))
    (λ (e : (b == end) ≡ false). ap (has_long false) (bracketed-solid words word end b s e) ∙ ap (λ t. list_any is_long words || t) (after_solid MAX_BRACKETED_BYTES MAX_BRACKETED_BYTES word b s))
    (cases_Bool (b == end)))
    (cases_Bool (is_blank b))

-- a word that wasn't too long is so behind the byte where the byte makes it so
long_after-short : (size : ℕ) (kind : Kind) (b : ℕ) → nat_lt (most_bytes false kind) size ≡ false → long_after size kind b ≡ kind_long size kind b
long_after-short size Start b e = refl
long_after-short size Plain b e =
    elim (is_blank b) as (λ t. (if t then nat_lt MAX_WORD_BYTES size else nat_le MAX_WORD_BYTES size) ≡ (not t && nat_le MAX_WORD_BYTES size)) [ true ↦ e | false ↦ refl ]
long_after-short size (Bracketed end) b e =
    elim (is_blank b) as (λ t. (if t then nat_lt MAX_BRACKETED_BYTES size else nat_le MAX_BRACKETED_BYTES size) ≡ (not t && nat_le MAX_BRACKETED_BYTES size)) [ true ↦ e | false ↦ refl ]

-- a word that is too long stays so
past_less : (most less size : ℕ) → less ≤ most → nat_lt most size ≡ true → (nat_lt less size ≡ true) × (nat_le less size ≡ true)
past_less most less size h e = let l = ltb-true most size e in (lt-ltb less size (omega arith), le-leb less size (omega arith))

choose_true : (t u v : Bool) → u ≡ true → v ≡ true → (if t then u else v) ≡ true
choose_true true u v a b = a
choose_true false u v a b = b

le_most : (t : Bool) → (if t then MAX_BRACKETED_BYTES else MAX_WORD_BYTES) ≤ MAX_BRACKETED_BYTES
le_most true = omega arith
le_most false = omega arith

long_after-long : (size : ℕ) (kind : Kind) (b : ℕ) → nat_lt (most_bytes false kind) size ≡ true → long_after size kind b ≡ true
long_after-long size Start b e =
    choose_true (is_blank b) _ _ (past_less MAX_BRACKETED_BYTES MAX_WORD_BYTES size (omega arith) e).0 (past_less MAX_BRACKETED_BYTES (if opens b || is_bang b then MAX_BRACKETED_BYTES else MAX_WORD_BYTES) size (le_most (opens b || is_bang b)) e).1
long_after-long size Plain b e = let p = past_less MAX_WORD_BYTES MAX_WORD_BYTES size (omega arith) e in choose_true (is_blank b) _ _ p.0 p.1
long_after-long size (Bracketed end) b e = let p = past_less MAX_BRACKETED_BYTES MAX_BRACKETED_BYTES size (omega arith) e in choose_true (is_blank b) _ _ p.0 p.1

pub has_long-byte : (cut : Cut) (b : ℕ) → IsKnown cut → has_long false cut ≡ false → has_long false (with_byte cut b) ≡ long_with cut b
unfolding long_with
has_long-byte cut b k e =
    let none = or_parts (list_any is_long cut.words) (nat_lt (most_bytes false cut.kind) (length cut.word)) e in
    has_long-at cut.words cut.word cut.kind b k.known ∙ rw none.0 (long_after-short (length cut.word) cut.kind b none.1)

has_long-stays : (cut : Cut) (b : ℕ) → IsKnown cut → has_long false cut ≡ true → has_long false (with_byte cut b) ≡ true
has_long-stays cut b k e =
    has_long-at cut.words cut.word cut.kind b k.known
    ∙ ⊎_elim
    (λ (h : list_any is_long cut.words ≡ true). or_left (list_any is_long cut.words) (long_after (length cut.word) cut.kind b) h)
    (λ (h : nat_lt (most_bytes false cut.kind) (length cut.word) ≡ true). or_right (list_any is_long cut.words) (long_after (length cut.word) cut.kind b) (long_after-long (length cut.word) cut.kind b h))
    (or_cases (list_any is_long cut.words) (nat_lt (most_bytes false cut.kind) (length cut.word)) e)

has_long-stay : (cut : Cut) (bs : List ℕ) → IsKnown cut → has_long false cut ≡ true → has_long false (with_bytes cut bs) ≡ true
has_long-stay cut [] k e = e
has_long-stay cut (b ∷ bs) k e = has_long-stay (with_byte cut b) bs (IsKnown-byte cut b k) (has_long-stays cut b k e)

-- of several bytes one makes a word too long
pub has_long-bytes : (cut : Cut) (bs : List ℕ) → IsKnown cut → has_long false cut ≡ false → has_long false (with_bytes cut bs) ≡ long_with_bytes cut bs
has_long-bytes cut [] k e = e
has_long-bytes cut (b ∷ bs) k e =
    let one = has_long-byte cut b k e in
    let next = IsKnown-byte cut b k in
    ⊎_elim
    (λ (h : long_with cut b ≡ true). has_long-stay (with_byte cut b) bs next (one ∙ h) ∙ sym (or_left (long_with cut b) (long_with_bytes (with_byte cut b) bs) h))
    (λ (h : long_with cut b ≡ false). has_long-bytes (with_byte cut b) bs next (one ∙ h) ∙ sym (or_right_only (long_with cut b) (long_with_bytes (with_byte cut b) bs) h))
    (cases_Bool (long_with cut b)) where
      or_right_only : (s t : Bool) → s ≡ false → (s || t) ≡ t
      or_right_only true t e = cc
      or_right_only false t e = refl

-- bytes without a word too long have none at their front
pub has_long-front : (cut : Cut) (bs : List ℕ) → IsKnown cut → has_long false (with_bytes cut bs) ≡ false → has_long false cut ≡ false
has_long-front cut bs k e =
    ⊎_elim
    (λ (h : has_long false cut ≡ true). absurd (false≢true (sym e ∙ has_long-stay cut bs k h)))
    (λ (h : has_long false cut ≡ false). h)
    (cases_Bool (has_long false cut))

-- where a `\` is short enough as a byte of a word, it is as a blank
blank_or_back : (words : List (List ℕ)) (word : List ℕ) (kind : Kind) → IsOfKind word kind → has_long false (with_byte (cut_at words word kind) 92) ≡ false → has_long false (with_byte (cut_at words word kind) 32) ≡ false
blank_or_back words word kind k e =
    let none = or_parts (list_any is_long words) (long_after (length word) kind 92) (sym (has_long-at words word kind 92 k) ∙ e) in
    has_long-at words word kind 32 k ∙ or_from (list_any is_long words) (long_after (length word) kind 32) none.0 (by_kind (length word) kind none.1) where
      less : (most size : ℕ) → nat_le most size ≡ false → nat_lt most size ≡ false
      less most size h = let l = leb-false most size h in le-ltb most size (omega arith)

      by_kind : (size : ℕ) (kind : Kind) → long_after size kind 92 ≡ false → long_after size kind 32 ≡ false
      by_kind size Start h = less MAX_WORD_BYTES size h
      by_kind size Plain h = less MAX_WORD_BYTES size h
      by_kind size (Bracketed end) h = less MAX_BRACKETED_BYTES size h

-- what was held back is short enough where the line ends if it is where the line goes on
pub has_long-blank : (cut : Cut) (place : Place) → IsKnown cut → has_long false (with_bytes cut (held place)) ≡ false → has_long false (with_bytes cut (blank_at place)) ≡ false
has_long-blank cut Text k e = e
has_long-blank cut Backslash k e = blank_or_back cut.words cut.word cut.kind k.known e
has_long-blank cut Return k e = blank_or_back cut.words cut.word cut.kind k.known (has_long-front (with_byte cut 92) (13 ∷ []) (IsKnown-byte cut 92 k) e)
has_long-blank cut Comment k e = e

-- ---- where a text ends

-- its long words are those that the line is cut into
pub has_long-finished : (cut : Cut) → IsKnown cut → has_long true cut ≡ list_any is_long (finished cut)
has_long-finished cut k =
    sym (list_any-append is_long cut.words (nonempty (cut.word ∷ [])) ∙ ap (λ t. list_any is_long cut.words || t) (last cut.word cut.kind k.known)) where
      one : (most : ℕ) (word : List ℕ) → (is_long word ≡ nat_lt most (length word)) → list_any is_long (nonempty (word ∷ [])) ≡ nat_lt most (length word)
      one most [] e = sym (le-ltb most 0 (omega arith))
      one most (b ∷ word) e = ap (list_any is_long) (nonempty-some (b ∷ word) (λ z. cc)) ∙ (or-false (is_long (b ∷ word)) ∙ e)

      last : (word : List ℕ) (kind : Kind) → IsOfKind word kind → list_any is_long (nonempty (word ∷ [])) ≡ nat_lt (most_bytes true kind) (length word)
      last word Start k = one MAX_WORD_BYTES word (is_long-plain word (not_bracketed-bangs word k))
      last word Plain k = one MAX_WORD_BYTES word (is_long-plain word (not_bracketed-plain word k))
      last word (Bracketed end) k = one MAX_BRACKETED_BYTES word (is_long-bracketed word k)

-- ---- faults of a text

fault_at_end : (line : ℕ) (t : Bool) (size : ℕ) (kind : Kind) → (if t || nat_lt (most_bytes true kind) size then Some (LongWord line) else (if waits kind then Some (OpenBracket line) else None)) ≡ (if t || nat_lt (most_bytes false kind) size then Some (LongWord line) else kind_end_fault line size kind)
fault_at_end line true size kind = refl
fault_at_end line false size Start =
    ⊎_elim
    (λ (h : nat_lt MAX_BRACKETED_BYTES size ≡ true). cond-true (nat_lt MAX_WORD_BYTES size) _ _ (past_less MAX_BRACKETED_BYTES MAX_WORD_BYTES size (omega arith) h).0 ∙ sym (cond-true (nat_lt MAX_BRACKETED_BYTES size) _ _ h))
    (λ (h : nat_lt MAX_BRACKETED_BYTES size ≡ false). sym (cond-false (nat_lt MAX_BRACKETED_BYTES size) _ _ h))
    (cases_Bool (nat_lt MAX_BRACKETED_BYTES size))
fault_at_end line false size Plain = refl
fault_at_end line false size (Bracketed end) = refl

-- where it ends, a run of `!` may be too long besides, or a bracket be open
pub words_fault-end : (line : ℕ) (cut : Cut) → words_fault line true cut ≡ (if has_long false cut then Some (LongWord line) else end_fault_of line cut)
unfolding end_fault_of
words_fault-end line cut = fault_at_end line (list_any is_long cut.words) (length cut.word) cut.kind
