-- A text is cut into the same words byte by byte as word by word.
use Rattle.std.proofs.Common.{◌≡◌, ℕ, ◌≤◌, Bool, true, false, not, ◌==◌, List, [], ◌∷◌, ◌++◌, length, filter, if◌then◌else◌, refl, ap, sym, ◌∙◌, subst, arith, append_assoc, ⊎_elim, suc, zero}
use Rattle.std.proofs.lemmas.Bool.{cases_Bool, cond-true, cond-false, or_cases, eqb-true, not_from_false, not_from_true, ne_eqb, false≢true}
use Rattle.std.proofs.lemmas.List.{append-nil}
use Rattle.mv_lex.specs.declared.parts.Kind.{Kind}
use Rattle.mv_lex.specs.declared.parts.Kind.TheVariants.{Start, Plain, Bracketed}
use Rattle.mv_lex.specs.Words.{is_blank, is_solid, is_bang, opens, closer, front, behind, Cut, no_words, with_word, bracketed_behind, plain_behind, cut_first, cut_words, cut_of, nonempty}
use Rattle.mv_lex.specs.Steps.{ended_word, with_byte, with_bytes}

abbrev pub cut_at : List (List ℕ) → List ℕ → Kind → Cut
cut_at words word kind = record { words = words; word = word; kind = kind }

-- words in front of a cut
abbrev pub with_words : List (List ℕ) → Cut → Cut
with_words words cut = record cut { words = words ++ cut.words }

-- ---- tests of bytes

-- a bracket is no blank
pub solid-opens : (b : ℕ) → opens b ≡ true → is_blank b ≡ false
solid-opens b e =
    let P : ℕ → Type 0 = λ n. is_blank n ≡ false in
    ⊎_elim (λ (h : (b == 40) ≡ true). subst P (sym (eqb-true b 40 h)) refl) (λ (h : (b == 123) ≡ true). subst P (sym (eqb-true b 123 h)) refl) (or_cases (b == 40) (b == 123) e)

solid-closer : (b : ℕ) → is_blank (closer b) ≡ false
solid-closer b =
    let P : ℕ → Type 0 = λ n. is_blank n ≡ false in
    elim (b == 40) as (λ t. is_blank (if t then 41 else 125) ≡ false) [ true ↦ refl | false ↦ refl ]

-- a `!` is no blank and no bracket
pub solid-bang : (b : ℕ) → is_bang b ≡ true → is_blank b ≡ false
solid-bang b e = let P : ℕ → Type 0 = λ n. is_blank n ≡ false in subst P (sym (eqb-true b 33 e)) refl

pub opens-bang : (b : ℕ) → is_bang b ≡ true → opens b ≡ false
opens-bang b e = let P : ℕ → Type 0 = λ n. opens n ≡ false in subst P (sym (eqb-true b 33 e)) refl

-- ---- fronts

front-pass : (p : ℕ → Bool) (b : ℕ) (text : List ℕ) → p b ≡ true → front p (b ∷ text) ≡ b ∷ front p text
front-pass p b text e = cond-true (p b) (b ∷ front p text) [] e

front-stop : (p : ℕ → Bool) (b : ℕ) (text : List ℕ) → p b ≡ false → front p (b ∷ text) ≡ []
front-stop p b text e = cond-false (p b) (b ∷ front p text) [] e

behind-pass : (p : ℕ → Bool) (b : ℕ) (text : List ℕ) → p b ≡ true → behind p (b ∷ text) ≡ behind p text
behind-pass p b text e = cond-true (p b) (behind p text) (b ∷ text) e

behind-stop : (p : ℕ → Bool) (b : ℕ) (text : List ℕ) → p b ≡ false → behind p (b ∷ text) ≡ b ∷ text
behind-stop p b text e = cond-false (p b) (behind p text) (b ∷ text) e

length-behind : (p : ℕ → Bool) (text : List ℕ) → length (behind p text) ≤ length text
length-behind p [] = omega arith
length-behind p (b ∷ text) =
    elim (p b) as (λ t. length (if t then behind p text else b ∷ text) ≤ length (b ∷ text)) [ true ↦ omega (arith, length-behind p text) | false ↦ omega arith ]

-- the byte behind the front fails the test
behind-first : (p : ℕ → Bool) (text : List ℕ) (b : ℕ) (rest : List ℕ) → behind p text ≡ b ∷ rest → p b ≡ false
behind-first p [] b rest e = cc
behind-first p (x ∷ text) b rest e =
    ⊎_elim
    (λ (h : p x ≡ true). behind-first p text b rest (sym (behind-pass p x text h) ∙ e))
    (λ (h : p x ≡ false). let same : x ∷ text ≡ b ∷ rest = sym (behind-stop p x text h) ∙ e in let eq : x ≡ b = cc in let P : ℕ → Type 0 = λ n. p n ≡ false in subst P eq h)
    (cases_Bool (p x))

-- with nothing at the front the whole is behind
behind-all : (p : ℕ → Bool) (text : List ℕ) → front p text ≡ [] → behind p text ≡ text
behind-all p [] e = refl
behind-all p (b ∷ text) e =
    ⊎_elim
    (λ (h : p b ≡ true). let none : b ∷ front p text ≡ [] = sym (front-pass p b text h) ∙ e in cc)
    (λ (h : p b ≡ false). behind-stop p b text h)
    (cases_Bool (p b))

-- ---- one byte

pub start-blank : (words : List (List ℕ)) (word : List ℕ) (b : ℕ) → is_blank b ≡ true → with_byte (cut_at words word Start) b ≡ ended_word words word
unfolding with_byte
start-blank words word b e = cond-true (is_blank b) _ _ e

pub start-opens : (words : List (List ℕ)) (word : List ℕ) (b : ℕ) → opens b ≡ true → with_byte (cut_at words word Start) b ≡ cut_at words (word ++ b ∷ []) (Bracketed (closer b))
unfolding with_byte
start-opens words word b e = cond-false (is_blank b) _ _ (solid-opens b e) ∙ cond-true (opens b) _ _ e

pub start-bang : (words : List (List ℕ)) (word : List ℕ) (b : ℕ) → is_bang b ≡ true → with_byte (cut_at words word Start) b ≡ cut_at words (word ++ b ∷ []) Start
unfolding with_byte
start-bang words word b e =
    cond-false (is_blank b) _ _ (solid-bang b e) ∙ (cond-false (opens b) _ _ (opens-bang b e) ∙ ap (cut_at words (word ++ b ∷ [])) (cond-true (is_bang b) Start Plain e))

pub start-plain : (words : List (List ℕ)) (word : List ℕ) (b : ℕ) → is_blank b ≡ false → opens b ≡ false → is_bang b ≡ false → with_byte (cut_at words word Start) b ≡ cut_at words (word ++ b ∷ []) Plain
unfolding with_byte
start-plain words word b s o e =
    cond-false (is_blank b) _ _ s ∙ (cond-false (opens b) _ _ o ∙ ap (cut_at words (word ++ b ∷ [])) (cond-false (is_bang b) Start Plain e))

pub plain-blank : (words : List (List ℕ)) (word : List ℕ) (b : ℕ) → is_blank b ≡ true → with_byte (cut_at words word Plain) b ≡ ended_word words word
unfolding with_byte
plain-blank words word b e = cond-true (is_blank b) _ _ e

pub plain-solid : (words : List (List ℕ)) (word : List ℕ) (b : ℕ) → is_blank b ≡ false → with_byte (cut_at words word Plain) b ≡ cut_at words (word ++ b ∷ []) Plain
unfolding with_byte
plain-solid words word b e = cond-false (is_blank b) _ _ e

pub bracketed-blank : (words : List (List ℕ)) (word : List ℕ) (end b : ℕ) → is_blank b ≡ true → with_byte (cut_at words word (Bracketed end)) b ≡ cut_at words word (Bracketed end)
unfolding with_byte
bracketed-blank words word end b e = cond-true (is_blank b) _ _ e

pub bracketed-end : (words : List (List ℕ)) (word : List ℕ) (end b : ℕ) → is_blank b ≡ false → (b == end) ≡ true → with_byte (cut_at words word (Bracketed end)) b ≡ ended_word words (word ++ b ∷ [])
unfolding with_byte
bracketed-end words word end b s e = cond-false (is_blank b) _ _ s ∙ cond-true (b == end) _ _ e

pub bracketed-solid : (words : List (List ℕ)) (word : List ℕ) (end b : ℕ) → is_blank b ≡ false → (b == end) ≡ false → with_byte (cut_at words word (Bracketed end)) b ≡ cut_at words (word ++ b ∷ []) (Bracketed end)
unfolding with_byte
bracketed-solid words word end b s e = cond-false (is_blank b) _ _ s ∙ cond-false (b == end) _ _ e

-- ---- byte by byte

pub with_bytes-append : (cut : Cut) (xs ys : List ℕ) → with_bytes cut (xs ++ ys) ≡ with_bytes (with_bytes cut xs) ys
with_bytes-append cut [] ys = refl
with_bytes-append cut (x ∷ xs) ys = with_bytes-append (with_byte cut x) xs ys

pub nonempty-some : (w : List ℕ) → (w ≡ [] → ⊥) → nonempty (w ∷ []) ≡ w ∷ []
nonempty-some [] h = absurd (h refl)
nonempty-some (b ∷ w) h = rw (not_from_false _ (ne_eqb (length (b ∷ w)) 0 (λ z. omega arith))) refl

pub some_front : (w : List ℕ) (b : ℕ) (bs : List ℕ) → w ++ b ∷ bs ≡ [] → ⊥
some_front [] b bs e = cc
some_front (x ∷ w) b bs e = cc

-- blanks between words
with_bytes-blanks : (words : List (List ℕ)) (text : List ℕ) → with_bytes (cut_at words [] Start) text ≡ with_bytes (cut_at words [] Start) (behind is_blank text)
with_bytes-blanks words [] = refl
with_bytes-blanks words (b ∷ text) =
    ⊎_elim
    (λ (h : is_blank b ≡ true). ap (λ c. with_bytes c text) (start-blank words [] b h ∙ ap (λ ws. cut_at ws [] Start) (append-nil words)) ∙ (with_bytes-blanks words text ∙ ap (with_bytes (cut_at words [] Start)) (sym (behind-pass is_blank b text h))))
    (λ (h : is_blank b ≡ false). ap (with_bytes (cut_at words [] Start)) (sym (behind-stop is_blank b text h)))
    (cases_Bool (is_blank b))

-- a word with one more byte, and then those that pass a test
word-more : (word : List ℕ) (b : ℕ) (more : List ℕ) → (word ++ b ∷ []) ++ more ≡ word ++ b ∷ more
word-more word b more = append_assoc word (b ∷ []) more

-- a run of `!`
with_bytes-bangs : (words : List (List ℕ)) (word text : List ℕ) → with_bytes (cut_at words word Start) text ≡ with_bytes (cut_at words (word ++ front is_bang text) Start) (behind is_bang text)
with_bytes-bangs words word [] = ap (λ w. cut_at words w Start) (sym (append-nil word))
with_bytes-bangs words word (b ∷ text) =
    ⊎_elim
    (λ (h : is_bang b ≡ true). (
    rw (front-pass is_bang b text h, behind-pass is_bang b text h, ← word-more word b (front is_bang text), start-bang words word b h)
    (with_bytes-bangs words (word ++ b ∷ []) text)
    ))
    (λ (h : is_bang b ≡ false). rw (front-stop is_bang b text h, behind-stop is_bang b text h, append-nil word) refl)
    (cases_Bool (is_bang b))

-- a word that isn't bracketed
abbrev plain_end : List (List ℕ) → List ℕ → List ℕ → Cut
plain_end words word [] = cut_at words word Plain
plain_end words word (b ∷ text) = with_bytes (ended_word words word) text

with_bytes-plain : (words : List (List ℕ)) (word text : List ℕ) → with_bytes (cut_at words word Plain) text ≡ plain_end words (word ++ front is_solid text) (behind is_solid text)
with_bytes-plain words word [] = ap (λ w. cut_at words w Plain) (sym (append-nil word))
with_bytes-plain words word (b ∷ text) =
    ⊎_elim
    (λ (h : is_blank b ≡ true). (
    let s : is_solid b ≡ false = not_from_true (is_blank b) h in
    rw (front-stop is_solid b text s, behind-stop is_solid b text s, append-nil word, plain-blank words word b h) refl
    ))
    (λ (h : is_blank b ≡ false). (
    let s : is_solid b ≡ true = not_from_false (is_blank b) h in
    rw (front-pass is_solid b text s, behind-pass is_solid b text s, ← word-more word b (front is_solid text), plain-solid words word b h)
    (with_bytes-plain words (word ++ b ∷ []) text)
    ))
    (cases_Bool (is_blank b))

-- a bracketed word
abbrev bracketed_end : List (List ℕ) → ℕ → List ℕ → List ℕ → Cut
bracketed_end words end word [] = cut_at words word (Bracketed end)
bracketed_end words end word (b ∷ text) = with_bytes (ended_word words (word ++ b ∷ [])) text

-- what a bracketed word takes of the bytes before its end
abbrev inside : ℕ → List ℕ → List ℕ
inside end text = filter is_solid (front (λ b. not (b == end)) text)

with_bytes-bracketed : (words : List (List ℕ)) (end : ℕ) (word text : List ℕ) → is_blank end ≡ false → with_bytes (cut_at words word (Bracketed end)) text ≡ bracketed_end words end (word ++ inside end text) (behind (λ b. not (b == end)) text)
with_bytes-bracketed words end word [] solid = ap (λ w. cut_at words w (Bracketed end)) (sym (append-nil word))
with_bytes-bracketed words end word (b ∷ text) solid =
    ⊎_elim
    (λ (h : (b == end) ≡ true). (
    let P : ℕ → Type 0 = λ n. is_blank n ≡ false in
    let s : is_blank b ≡ false = subst P (sym (eqb-true b end h)) solid in
    let t : not (b == end) ≡ false = not_from_true (b == end) h in
    rw (front-stop (λ c. not (c == end)) b text t, behind-stop (λ c. not (c == end)) b text t, append-nil word, bracketed-end words word end b s h) refl
    ))
    (λ (h : (b == end) ≡ false). (
    let t : not (b == end) ≡ true = not_from_false (b == end) h in
    let before = front (λ c. not (c == end)) text in
    ⊎_elim
    (λ (s : is_blank b ≡ true). (
    let out : filter is_solid (b ∷ before) ≡ filter is_solid before = cond-false (is_solid b) _ _ (not_from_true (is_blank b) s) in
    rw (front-pass (λ c. not (c == end)) b text t, behind-pass (λ c. not (c == end)) b text t, out, bracketed-blank words word end b s)
    (with_bytes-bracketed words end word text solid)
    ))
    (λ (s : is_blank b ≡ false). (
    let kept : filter is_solid (b ∷ before) ≡ b ∷ filter is_solid before = cond-true (is_solid b) _ _ (not_from_false (is_blank b) s) in
    rw (front-pass (λ c. not (c == end)) b text t, behind-pass (λ c. not (c == end)) b text t, kept, ← word-more word b (filter is_solid before), bracketed-solid words word end b s h)
    (with_bytes-bracketed words end (word ++ b ∷ []) text solid)
    ))
    (cases_Bool (is_blank b))
    ))
    (cases_Bool (b == end))

with_words-push : (words : List (List ℕ)) (word : List ℕ) (cut : Cut) → with_words (words ++ word ∷ []) cut ≡ with_words words (with_word word cut)
with_words-push words word cut = rw (append_assoc words (word ∷ []) cut.words) refl

-- ---- word by word

module _ (n : ℕ) (rest : (words : List (List ℕ)) (text : List ℕ) → length text ≤ n → with_bytes (cut_at words [] Start) text ≡ with_words words (cut_words n text)) where
  -- a word has ended, and the rest is cut
  word_more : (words : List (List ℕ)) (word text : List ℕ) → (word ≡ [] → ⊥) → length text ≤ n → with_bytes (ended_word words word) text ≡ with_words words (with_word word (cut_words n text))
  word_more words word text some short =
      rw (nonempty-some word some) (rest (words ++ word ∷ []) text short ∙ with_words-push words word (cut_words n text))

  bracketed_more : (words : List (List ℕ)) (end : ℕ) (word text : List ℕ) → length text ≤ suc n → bracketed_end words end word text ≡ with_words words (bracketed_behind (cut_words n) end word text)
  bracketed_more words end word [] short = rw (append-nil words) refl
  bracketed_more words end word (b ∷ text) short = word_more words (word ++ b ∷ []) text (some_front word b []) (omega arith)

  plain_more : (words : List (List ℕ)) (word text : List ℕ) → (word ≡ [] → ⊥) → length text ≤ suc n → plain_end words word text ≡ with_words words (plain_behind (cut_words n) word text)
  plain_more words word [] some short = rw (append-nil words) refl
  plain_more words word (b ∷ text) some short = word_more words word text some (omega arith)

  -- what stands behind the `!` of the first word
  first_more : (words : List (List ℕ)) (bangs text : List ℕ) → length text ≤ suc n → ((b : ℕ) (rest : List ℕ) → text ≡ b ∷ rest → is_bang b ≡ false) → ((b : ℕ) (rest : List ℕ) → text ≡ b ∷ rest → bangs ≡ [] → is_blank b ≡ false) → with_bytes (cut_at words bangs Start) text ≡ with_words words (cut_first (cut_words n) bangs text)
  first_more words bangs [] short bang blank = ap (λ ws. cut_at ws bangs Start) (sym (append-nil words))
  first_more words bangs (b ∷ text) short bang blank =
      ⊎_elim
      (λ (h : opens b ≡ true). (
      let within = length-behind (λ c. not (c == closer b)) text in
      ap (λ c. with_bytes c text) (start-opens words bangs b h)
      ∙ (with_bytes-bracketed words (closer b) (bangs ++ b ∷ []) text (solid-closer b)
      ∙ (bracketed_more words (closer b) ((bangs ++ b ∷ []) ++ inside (closer b) text) (behind (λ c. not (c == closer b)) text) (omega arith)
      ∙ ap (with_words words) (sym (cond-true (opens b) _ _ h))))
      ))
      (λ (h : opens b ≡ false). subst (λ (c : Cut). with_bytes (cut_at words bangs Start) (b ∷ text) ≡ with_words words c) (sym (cond-false (opens b) _ _ h)) (⊎_elim
      (λ (s : is_blank b ≡ true). (
      let some = λ (e : bangs ≡ []). false≢true (sym (blank b text refl e) ∙ s) in
      let t : is_solid b ≡ false = not_from_true (is_blank b) s in
      rw (front-stop is_solid b text t, behind-stop is_solid b text t, append-nil bangs, start-blank words bangs b s)
      (word_more words bangs text some (omega arith))
      ))
      (λ (s : is_blank b ≡ false). (
      let within = length-behind is_solid text in
      let t : is_solid b ≡ true = not_from_false (is_blank b) s in
      let some = λ (e : bangs ++ b ∷ front is_solid text ≡ []). some_front bangs b (front is_solid text) e in
      rw (front-pass is_solid b text t, behind-pass is_solid b text t, start-plain words bangs b s h (bang b text refl))
      (with_bytes-plain words (bangs ++ b ∷ []) text ∙ rw (word-more bangs b (front is_solid text)) (plain_more words (bangs ++ b ∷ front is_solid text) (behind is_solid text) some (omega arith)))
      ))
      (cases_Bool (is_blank b))))
      (cases_Bool (opens b))

cut_words-bytes : (n : ℕ) (words : List (List ℕ)) (text : List ℕ) → length text ≤ n → with_bytes (cut_at words [] Start) text ≡ with_words words (cut_words n text)
cut_words-bytes zero words [] short = rw (append-nil words) refl
cut_words-bytes zero words (b ∷ text) short = absurd (omega arith)
cut_words-bytes (suc n) words text short =
    let solid = behind is_blank text in
    let within = length-behind is_blank text in
    let fewer = length-behind is_bang solid in
    with_bytes-blanks words text
    ∙ (with_bytes-bangs words [] solid
    ∙ first_more n (cut_words-bytes n) words (front is_bang solid) (behind is_bang solid) (omega arith)
    (λ b rest e. behind-first is_bang solid b rest e)
    (λ b rest e none. behind-first is_blank text b rest (sym (behind-all is_bang solid none) ∙ e)))

-- a text is cut byte by byte
pub cut_of-bytes : (text : List ℕ) → cut_of text ≡ with_bytes no_words text
unfolding cut_of
cut_of-bytes text = sym (cut_words-bytes (length text) [] text (omega arith))

pub cut_of-append : (text more : List ℕ) → cut_of (text ++ more) ≡ with_bytes (cut_of text) more
cut_of-append text more = rw (cut_of-bytes (text ++ more), cut_of-bytes text) (with_bytes-append no_words text more)
