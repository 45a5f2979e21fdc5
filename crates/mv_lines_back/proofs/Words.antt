-- Words that are written are cut back as they were, by a blank behind them and by the end of the text.
use Rattle.std.proofs.Common.{◌≡◌, ℕ, ◌⊎◌, true, false, not, ◌&&◌, ◌==◌, List, [], ◌∷◌, ◌++◌, length, refl, ap, sym, ◌∙◌, subst, arith, append_assoc, inl, inr, ⊎_elim}
use Rattle.std.specs.List.{list_all}
use Rattle.std.proofs.lemmas.Bool.{cases_Bool, cond-true, cond-false, and_parts, and_from, or_cases, or_parts, eqb-true, not-true, false≢true}
use Rattle.std.proofs.lemmas.List.{append-nil}
use Rattle.mv_base.specs.Names.{is_bracketed, ends_with}
use Rattle.mv_lex.specs.declared.parts.Kind.TheVariants.{Start, Plain, Bracketed}
use Rattle.mv_lex.specs.Words.{is_bang, opens, Cut, finished, waits}
use Rattle.mv_lex.specs.Steps.{ended_word, with_byte, with_bytes}
use Rattle.mv_lex.proofs.Letters.{word_byte}
use Rattle.mv_lex.proofs.Cutting.{cut_at, nonempty-some, some_front, start-bang, start-plain, start-opens, start-blank, plain-blank, plain-solid, bracketed-end, bracketed-solid}
use Rattle.mv_lines_back.specs.TextWords.{is_word_byte, is_list_rest, is_list_word, is_written_word, is_plain_word}
use Rattle.mv_lines_back.proofs.Ends.{ends_with-skip}

-- ---- lists in brackets

-- the bytes behind the `(`: the end, or one more byte and the rest
record IsEnd (b : ℕ) (bs : List ℕ) : Type 0 where
  byte : b ≡ 41
  last : bs ≡ []

record IsInside (b : ℕ) (bs : List ℕ) : Type 0 where
  byte : is_word_byte b ≡ true
  other : (b == 41) ≡ false
  more : is_list_rest bs ≡ true

empty_from : (bs : List ℕ) → (length bs == 0) ≡ true → bs ≡ []
empty_from [] h = refl
empty_from (b ∷ bs) h = let z = eqb-true (length (b ∷ bs)) 0 h in absurd (omega arith)

end_or_inside : (b : ℕ) (bs : List ℕ) → is_list_rest (b ∷ bs) ≡ true → IsEnd b bs ⊎ IsInside b bs
end_or_inside b bs h =
    ⊎_elim
    (λ (e : (b == 41) ≡ true). inl (record { byte = eqb-true b 41 e; last = empty_from bs (sym (cond-true (b == 41) _ _ e) ∙ h) }))
    (λ (n : (b == 41) ≡ false). (
    let both = and_parts (is_word_byte b) (is_list_rest bs) (sym (cond-false (b == 41) _ _ n) ∙ h) in
    inr (record { byte = both.0; other = n; more = both.1 })
    ))
    (cases_Bool (b == 41))

rest_bytes : (bs : List ℕ) → is_list_rest bs ≡ true → list_all is_word_byte bs ≡ true
rest_bytes [] h = cc
rest_bytes (b ∷ bs) h =
    ⊎_elim
    (λ (e : IsEnd b bs). rw (e.byte, e.last) refl)
    (λ (i : IsInside b bs). and_from (is_word_byte b) (list_all is_word_byte bs) i.byte (rest_bytes bs i.more))
    (end_or_inside b bs h)

rest_ends : (a : ℕ) (bs : List ℕ) → is_list_rest bs ≡ true → ends_with 92 (a ∷ bs) ≡ false
rest_ends a [] h = cc
rest_ends a (b ∷ bs) h =
    ends_with-skip 92 a b bs
    ∙ ⊎_elim
    (λ (e : IsEnd b bs). rw (e.byte, e.last) refl)
    (λ (i : IsInside b bs). rest_ends b bs i.more)
    (end_or_inside b bs h)

-- ---- what each written word has

pub record IsWritten (w : List ℕ) : Type 0 where
  pub some : w ≡ [] → ⊥
  pub bytes : list_all is_word_byte w ≡ true
  pub ends : ends_with 92 w ≡ false

-- a plain one isn't bracketed besides
record IsPlainWord (w : List ℕ) : Type 0 where
  written : IsWritten w
  unbracketed : is_bracketed w ≡ false

plain_word : (w : List ℕ) → is_plain_word w ≡ true → IsPlainWord w
plain_word w h =
    let p = and_parts (not (length w == 0) && list_all is_word_byte w && not (is_bracketed w)) (not (ends_with 92 w)) h in
    let q = and_parts (not (length w == 0) && list_all is_word_byte w) (not (is_bracketed w)) p.0 in
    let r = and_parts (not (length w == 0)) (list_all is_word_byte w) q.0 in
    record {
      written = record {
        some = λ e. false≢true (sym (ap (λ v. not (length v == 0)) e) ∙ r.0);
        bytes = r.1;
        ends = not-true (ends_with 92 w) p.1;
      };
      unbracketed = not-true (is_bracketed w) q.1;
    }

list_word : (w : List ℕ) → is_list_word w ≡ true → IsWritten w
list_word [] h = cc
list_word (b ∷ bs) h =
    let both = and_parts (b == 40) (is_list_rest bs) h in
    record {
      some = some_front [] b bs;
      bytes = rw (eqb-true b 40 both.0) (rest_bytes bs both.1);
      ends = rest_ends b bs both.1;
    }

pub written_word : (w : List ℕ) → is_written_word w ≡ true → IsWritten w
unfolding is_written_word
written_word w h =
    ⊎_elim (λ (p : is_plain_word w ≡ true). (plain_word w p).written) (λ (l : is_list_word w ≡ true). list_word w l) (or_cases (is_plain_word w) (is_list_word w) h)

-- ---- cutting them

-- a blank ends the word, the end of the text ends it, and no bracket is left open
pub record IsCutBack (words : List (List ℕ)) (word : List ℕ) (cut : Cut) : Type 0 where
  pub blank : with_byte cut 32 ≡ cut_at (words ++ word ∷ []) [] Start
  pub whole : finished cut ≡ words ++ word ∷ []
  pub closed : waits cut.kind ≡ false

-- a cut whose last word isn't bracketed
abbrev IsOpen : List (List ℕ) → List ℕ → Cut → Type 0
IsOpen words word cut = (cut ≡ cut_at words word Start) ⊎ (cut ≡ cut_at words word Plain)

plain_bytes : (words : List (List ℕ)) (word more : List ℕ) → list_all is_word_byte more ≡ true → with_bytes (cut_at words word Plain) more ≡ cut_at words (word ++ more) Plain
plain_bytes words word [] h = ap (λ w. cut_at words w Plain) (sym (append-nil word))
plain_bytes words word (b ∷ more) h =
    let both = and_parts (is_word_byte b) (list_all is_word_byte more) h in
    ap (λ c. with_bytes c more) (plain-solid words word b (word_byte b both.0).blank) ∙ (plain_bytes words (word ++ b ∷ []) more both.1 ∙ ap (λ w. cut_at words w Plain) (append_assoc word (b ∷ []) more))

-- any number of `!` may stand before a plain word, or make it up
open_bytes : (words : List (List ℕ)) (word more : List ℕ) → list_all is_word_byte more ≡ true → is_bracketed more ≡ false → IsOpen words (word ++ more) (with_bytes (cut_at words word Start) more)
open_bytes words word [] h n = inl (ap (λ w. cut_at words w Start) (sym (append-nil word)))
open_bytes words word (b ∷ more) h n =
    let both = and_parts (is_word_byte b) (list_all is_word_byte more) h in
    let none = or_parts (opens b) ((b == 33) && is_bracketed more) n in
    let regroup = append_assoc word (b ∷ []) more in
    ⊎_elim
    (λ (bang : is_bang b ≡ true). (
    let same : ((b == 33) && is_bracketed more) ≡ is_bracketed more = rw bang refl in
    let rest : is_bracketed more ≡ false = sym same ∙ none.1 in
    let P : Cut → Type 0 = λ c. IsOpen words (word ++ b ∷ more) (with_bytes c more) in
    let Q : List ℕ → Type 0 = λ w. IsOpen words w (with_bytes (cut_at words (word ++ b ∷ []) Start) more) in
    subst P (sym (start-bang words word b bang)) (subst Q regroup (open_bytes words (word ++ b ∷ []) more both.1 rest))
    ))
    (λ (bang : is_bang b ≡ false). inr (ap (λ c. with_bytes c more) (start-plain words word b (word_byte b both.0).blank none.0 bang) ∙ (plain_bytes words (word ++ b ∷ []) more both.1 ∙ ap (λ w. cut_at words w Plain) regroup)))
    (cases_Bool (is_bang b))

ended-some : (words : List (List ℕ)) (word : List ℕ) → (word ≡ [] → ⊥) → ended_word words word ≡ cut_at (words ++ word ∷ []) [] Start
ended-some words word some = ap (λ ns. cut_at (words ++ ns) [] Start) (nonempty-some word some)

open_back : (words : List (List ℕ)) (word : List ℕ) (cut : Cut) → (word ≡ [] → ⊥) → IsOpen words word cut → IsCutBack words word cut
open_back words word cut some (inl e) = record {
  blank = ap (λ c. with_byte c 32) e ∙ (start-blank words word 32 refl ∙ ended-some words word some);
  whole = ap finished e ∙ ap (λ ws. words ++ ws) (nonempty-some word some);
  closed = ap (λ c. waits c.kind) e;
}
open_back words word cut some (inr e) = record {
  blank = ap (λ c. with_byte c 32) e ∙ (plain-blank words word 32 refl ∙ ended-some words word some);
  whole = ap finished e ∙ ap (λ ws. words ++ ws) (nonempty-some word some);
  closed = ap (λ c. waits c.kind) e;
}

-- a list runs to its `)`, and ends with it
list_bytes : (words : List (List ℕ)) (word bs : List ℕ) → is_list_rest bs ≡ true → with_bytes (cut_at words word (Bracketed 41)) bs ≡ ended_word words (word ++ bs)
list_bytes words word [] h = cc
list_bytes words word (b ∷ bs) h =
    ⊎_elim
    (λ (e : IsEnd b bs). rw (e.byte, e.last) (bracketed-end words word 41 41 refl refl))
    (λ (i : IsInside b bs). ap (λ c. with_bytes c bs) (bracketed-solid words word 41 b (word_byte b i.byte).blank i.other) ∙ (list_bytes words (word ++ b ∷ []) bs i.more ∙ ap (ended_word words) (append_assoc word (b ∷ []) bs)))
    (end_or_inside b bs h)

list_back : (words : List (List ℕ)) (w : List ℕ) → is_list_word w ≡ true → with_bytes (cut_at words [] Start) w ≡ cut_at (words ++ w ∷ []) [] Start
list_back words [] h = cc
list_back words (b ∷ bs) h =
    let both = and_parts (b == 40) (is_list_rest bs) h in
    let from_bracket : with_bytes (cut_at words [] Start) (40 ∷ bs) ≡ ended_word words (40 ∷ bs) = ap (λ c. with_bytes c bs) (start-opens words [] 40 refl) ∙ list_bytes words (40 ∷ []) bs both.1 in
    rw (eqb-true b 40 both.0) (from_bracket ∙ ended-some words (40 ∷ bs) (some_front [] 40 bs))

ended_back : (words : List (List ℕ)) (word : List ℕ) (cut : Cut) → cut ≡ cut_at (words ++ word ∷ []) [] Start → IsCutBack words word cut
ended_back words word cut e =
    let all = words ++ word ∷ [] in
    record {
      blank = ap (λ c. with_byte c 32) e ∙ (start-blank all [] 32 refl ∙ ap (λ ws. cut_at ws [] Start) (append-nil all));
      whole = ap finished e ∙ append-nil all;
      closed = ap (λ c. waits c.kind) e;
    }

-- a written word behind words that have ended
pub cut-back : (words : List (List ℕ)) (w : List ℕ) → is_written_word w ≡ true → IsCutBack words w (with_bytes (cut_at words [] Start) w)
unfolding is_written_word
cut-back words w h =
    ⊎_elim
    (λ (p : is_plain_word w ≡ true). let is = plain_word w p in open_back words w _ is.written.some (open_bytes words [] w is.written.bytes is.unbracketed))
    (λ (l : is_list_word w ≡ true). ended_back words w _ (list_back words w l))
    (or_cases (is_plain_word w) (is_list_word w) h)
