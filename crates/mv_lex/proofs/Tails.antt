-- The `\` at the end of a line, its comment, and what is certain of it, when one more byte comes.
use Rattle.std.proofs.Common.{◌≡◌, ℕ, true, false, not, ◌&&◌, ◌||◌, ◌==◌, List, [], ◌∷◌, ◌++◌, if◌then◌else◌, refl, ap, sym, ◌∙◌, subst, ⊎_elim}
use Rattle.std.proofs.lemmas.Bool.{cases_Bool, cond-true, cond-false, and_parts, and_right, and_left, or_parts, or_left, or_right, eqb-true, not_from_true, not_from_false}
use Rattle.mv_lex.specs.declared.parts.Place.{Place}
use Rattle.mv_lex.specs.declared.parts.Place.TheVariants.{Text, Backslash, Return, Comment}
use Rattle.mv_lex.specs.Lines.{is_hash, has_hash, before_hash, is_line_end, tail_of, before_tail, certain}
use Rattle.mv_lex.specs.Reading.{place_of_tail, place_of}
use Rattle.mv_lex.specs.Steps.{held, is_backslash}

-- ---- the tail

-- the line is what stands before its tail, and the tail
pub before_tail-tail : (line : List ℕ) → before_tail line ++ tail_of line ≡ line
before_tail-tail [] = refl
before_tail-tail (b ∷ line) =
    elim ((b == 92) && is_line_end line) as (λ t. (if t then [] else b ∷ before_tail line) ++ (if t then b ∷ line else tail_of line) ≡ b ∷ line) [
      | true ↦ refl
      | false ↦ ap (λ bs. b ∷ bs) (before_tail-tail line)
    ]

-- what is held back behind a line without a comment is its tail
pub held-tail : (line : List ℕ) → held (place_of_tail (tail_of line)) ≡ tail_of line
held-tail [] = refl
held-tail (b ∷ []) =
    ⊎_elim
    (λ (h : (b == 92) ≡ true). rw (h, eqb-true b 92 h) refl)
    (λ (h : (b == 92) ≡ false). rw h refl)
    (cases_Bool (b == 92))
held-tail (b ∷ c ∷ []) =
    ⊎_elim
    (λ (h : ((b == 92) && (c == 13)) ≡ true). (
    let both = and_parts (b == 92) (c == 13) h in
    rw (eqb-true b 92 both.0, eqb-true c 13 both.1) refl
    ))
    (λ (h : ((b == 92) && (c == 13)) ≡ false). (
    let t : tail_of (b ∷ c ∷ []) ≡ tail_of (c ∷ []) = cond-false ((b == 92) && (c == 13)) _ _ h in
    rw t (held-tail (c ∷ []))
    ))
    (cases_Bool ((b == 92) && (c == 13)))
held-tail (b ∷ c ∷ d ∷ line) =
    let t : tail_of (b ∷ c ∷ d ∷ line) ≡ tail_of (c ∷ d ∷ line) = cond-false ((b == 92) && false) _ _ (and_right (b == 92) false refl) in
    rw t (held-tail (c ∷ d ∷ line))

-- a line of two bytes and more isn't the end of one, nor is one with a byte more
is_line_end-push : (c : ℕ) (line : List ℕ) (b : ℕ) → is_line_end (c ∷ (line ++ b ∷ [])) ≡ false
is_line_end-push c [] b = refl
is_line_end-push c (d ∷ line) b = refl

-- the first byte is in no tail
pub tail_of-skip : (b : ℕ) (line : List ℕ) → is_line_end line ≡ false → tail_of (b ∷ line) ≡ tail_of line
tail_of-skip b line e = cond-false ((b == 92) && is_line_end line) _ _ (and_right (b == 92) (is_line_end line) e)

before_tail-skip : (b : ℕ) (line : List ℕ) → is_line_end line ≡ false → before_tail (b ∷ line) ≡ b ∷ before_tail line
before_tail-skip b line e = cond-false ((b == 92) && is_line_end line) _ _ (and_right (b == 92) (is_line_end line) e)

-- a `\` comes: all before it is certain
tail_of-backslash : (line : List ℕ) → tail_of (line ++ 92 ∷ []) ≡ 92 ∷ []
tail_of-backslash [] = refl
tail_of-backslash (b ∷ []) = tail_of-skip b (92 ∷ []) refl
tail_of-backslash (b ∷ c ∷ line) = tail_of-skip b (c ∷ (line ++ 92 ∷ [])) (is_line_end-push c line 92) ∙ tail_of-backslash (c ∷ line)

before_tail-backslash : (line : List ℕ) → before_tail (line ++ 92 ∷ []) ≡ line
before_tail-backslash [] = refl
before_tail-backslash (b ∷ []) = before_tail-skip b (92 ∷ []) refl
before_tail-backslash (b ∷ c ∷ line) = before_tail-skip b (c ∷ (line ++ 92 ∷ [])) (is_line_end-push c line 92) ∙ ap (λ bs. b ∷ bs) (before_tail-backslash (c ∷ line))

-- a carriage return comes behind a `\`: nothing more is certain
pub record HasTail (line tail front : List ℕ) : Type 0 where
  pub tail_is : tail_of line ≡ tail
  pub front_is : before_tail line ≡ front

tail-return : (line : List ℕ) → tail_of line ≡ 92 ∷ [] → HasTail (line ++ 13 ∷ []) (92 ∷ 13 ∷ []) (before_tail line)
tail-return [] e = cc
tail-return (b ∷ []) e =
    ⊎_elim
    (λ (h : (b == 92) ≡ true). rw (eqb-true b 92 h) (record { tail_is = refl; front_is = refl }))
    (λ (h : (b == 92) ≡ false). let none : tail_of (b ∷ []) ≡ [] = cond-false ((b == 92) && true) _ _ (and_left (b == 92) true h) in cc)
    (cases_Bool (b == 92))
tail-return (b ∷ c ∷ line) e =
    ⊎_elim
    (λ (h : ((b == 92) && is_line_end (c ∷ line)) ≡ true). let whole : tail_of (b ∷ c ∷ line) ≡ b ∷ c ∷ line = cond-true ((b == 92) && is_line_end (c ∷ line)) _ _ h in cc)
    (λ (h : ((b == 92) && is_line_end (c ∷ line)) ≡ false). (
    let t : tail_of (b ∷ c ∷ line) ≡ tail_of (c ∷ line) = cond-false ((b == 92) && is_line_end (c ∷ line)) _ _ h in
    let f : before_tail (b ∷ c ∷ line) ≡ b ∷ before_tail (c ∷ line) = cond-false ((b == 92) && is_line_end (c ∷ line)) _ _ h in
    let rest = tail-return (c ∷ line) (sym t ∙ e) in
    record {
      tail_is = tail_of-skip b (c ∷ (line ++ 13 ∷ [])) (is_line_end-push c line 13) ∙ rest.tail_is;
      front_is = before_tail-skip b (c ∷ (line ++ 13 ∷ [])) (is_line_end-push c line 13) ∙ (ap (λ bs. b ∷ bs) rest.front_is ∙ sym f);
    }
    ))
    (cases_Bool ((b == 92) && is_line_end (c ∷ line)))

-- any other byte comes: all is certain
tail_of-more : (b : ℕ) (line : List ℕ) → tail_of line ≡ 92 ∷ [] → tail_of (b ∷ line) ≡ 92 ∷ []
tail_of-more b [] e = cc
tail_of-more b (c ∷ []) e =
    ⊎_elim
    (λ (h : ((b == 92) && (c == 13)) ≡ true). (
    let returns : c ≡ 13 = eqb-true c 13 (and_parts (b == 92) (c == 13) h).1 in
    let P : ℕ → Type 0 = λ n. tail_of (n ∷ []) ≡ 92 ∷ [] in
    let none : tail_of (13 ∷ []) ≡ 92 ∷ [] = subst P returns e in
    cc
    ))
    (λ (h : ((b == 92) && (c == 13)) ≡ false). cond-false ((b == 92) && (c == 13)) _ _ h ∙ e)
    (cases_Bool ((b == 92) && (c == 13)))
tail_of-more b (c ∷ d ∷ line) e = tail_of-skip b (c ∷ d ∷ line) refl ∙ e

tail-other : (line : List ℕ) (b : ℕ) → (b == 92) ≡ false → ((b == 13) ≡ true → tail_of line ≡ 92 ∷ [] → ⊥) → HasTail (line ++ b ∷ []) [] (line ++ b ∷ [])
tail-other [] b n other = record {
  tail_is = cond-false ((b == 92) && true) _ _ (and_left (b == 92) true n);
  front_is = cond-false ((b == 92) && true) _ _ (and_left (b == 92) true n);
}
tail-other (c ∷ []) b n other =
    let rest = tail-other [] b n (λ r e. cc) in
    ⊎_elim
    (λ (h : ((c == 92) && (b == 13)) ≡ true). (
    let both = and_parts (c == 92) (b == 13) h in
    let t : tail_of (c ∷ []) ≡ 92 ∷ [] = rw (eqb-true c 92 both.0) refl in
    absurd (other both.1 t)
    ))
    (λ (h : ((c == 92) && (b == 13)) ≡ false). record {
      tail_is = cond-false ((c == 92) && (b == 13)) _ _ h ∙ rest.tail_is;
      front_is = cond-false ((c == 92) && (b == 13)) _ _ h ∙ ap (λ bs. c ∷ bs) rest.front_is;
    })
    (cases_Bool ((c == 92) && (b == 13)))
tail-other (c ∷ d ∷ line) b n other =
    let rest = tail-other (d ∷ line) b n (λ r e. other r (tail_of-more c (d ∷ line) e)) in
    record {
      tail_is = tail_of-skip c (d ∷ (line ++ b ∷ [])) (is_line_end-push d line b) ∙ rest.tail_is;
      front_is = before_tail-skip c (d ∷ (line ++ b ∷ [])) (is_line_end-push d line b) ∙ ap (λ bs. c ∷ bs) rest.front_is;
    }

-- ---- comments

pub has_hash-push : (line : List ℕ) (b : ℕ) → has_hash (line ++ b ∷ []) ≡ (has_hash line || is_hash b)
has_hash-push [] b = elim (is_hash b) as (λ t. (t || false) ≡ t) [ true ↦ refl | false ↦ refl ]
has_hash-push (c ∷ line) b =
    elim (is_hash c) as (λ t. (t || has_hash (line ++ b ∷ [])) ≡ ((t || has_hash line) || is_hash b)) [ true ↦ refl | false ↦ has_hash-push line b ]

pub before_hash-behind : (line : List ℕ) (b : ℕ) → has_hash line ≡ true → before_hash (line ++ b ∷ []) ≡ before_hash line
before_hash-behind [] b e = cc
before_hash-behind (c ∷ line) b e =
    ⊎_elim
    (λ (h : is_hash c ≡ true). cond-false (not (is_hash c)) _ _ (not_from_true (is_hash c) h) ∙ sym (cond-false (not (is_hash c)) _ _ (not_from_true (is_hash c) h)))
    (λ (h : is_hash c ≡ false). (
    let t = not_from_false (is_hash c) h in
    let rest : has_hash line ≡ true = sym (rw h refl) ∙ e in
    cond-true (not (is_hash c)) _ _ t ∙ (ap (λ bs. c ∷ bs) (before_hash-behind line b rest) ∙ sym (cond-true (not (is_hash c)) _ _ t))
    ))
    (cases_Bool (is_hash c))

pub before_hash-begins : (line : List ℕ) (b : ℕ) → has_hash line ≡ false → is_hash b ≡ true → before_hash (line ++ b ∷ []) ≡ line
before_hash-begins [] b e h = cond-false (not (is_hash b)) _ _ (not_from_true (is_hash b) h)
before_hash-begins (c ∷ line) b e h =
    let both = or_parts (is_hash c) (has_hash line) e in
    cond-true (not (is_hash c)) _ _ (not_from_false (is_hash c) both.0) ∙ ap (λ bs. c ∷ bs) (before_hash-begins line b both.1 h)

pub before_hash-clear : (line : List ℕ) → has_hash line ≡ false → before_hash line ≡ line
before_hash-clear [] e = refl
before_hash-clear (c ∷ line) e =
    let both = or_parts (is_hash c) (has_hash line) e in
    cond-true (not (is_hash c)) _ _ (not_from_false (is_hash c) both.0) ∙ ap (λ bs. c ∷ bs) (before_hash-clear line both.1)

-- ---- what is certain of a line, and where the next byte stands

certain-commented : (line : List ℕ) → has_hash line ≡ true → certain line ≡ before_hash line
certain-commented line e = cond-true (has_hash line) _ _ e

pub certain-clear : (line : List ℕ) → has_hash line ≡ false → certain line ≡ before_tail line
certain-clear line e = cond-false (has_hash line) _ _ e

pub place_of-commented : (line : List ℕ) → has_hash line ≡ true → place_of line ≡ Comment
place_of-commented line e = cond-true (has_hash line) _ _ e

pub place_of-clear : (line : List ℕ) → has_hash line ≡ false → place_of line ≡ place_of_tail (tail_of line)
place_of-clear line e = cond-false (has_hash line) _ _ e

-- a line has this certain text, and the next byte stands there
pub record Stands (line text : List ℕ) (place : Place) : Type 0 where
  pub text_is : certain line ≡ text
  pub place_is : place_of line ≡ place

pub whole_certain : (line : List ℕ) → has_hash line ≡ false → certain line ++ tail_of line ≡ line
whole_certain line e = rw (certain-clear line e) (before_tail-tail line)

-- in a comment
pub stands-commented : (line : List ℕ) (b : ℕ) → has_hash line ≡ true → Stands (line ++ b ∷ []) (certain line) Comment
stands-commented line b e =
    let h : has_hash (line ++ b ∷ []) ≡ true = has_hash-push line b ∙ or_left (has_hash line) (is_hash b) e in
    record {
      text_is = certain-commented (line ++ b ∷ []) h ∙ (before_hash-behind line b e ∙ sym (certain-commented line e));
      place_is = place_of-commented (line ++ b ∷ []) h;
    }

-- a comment begins
pub stands-hash : (line : List ℕ) (b : ℕ) → has_hash line ≡ false → is_hash b ≡ true → Stands (line ++ b ∷ []) line Comment
stands-hash line b e h =
    let k : has_hash (line ++ b ∷ []) ≡ true = has_hash-push line b ∙ or_right (has_hash line) (is_hash b) h in
    record {
      text_is = certain-commented (line ++ b ∷ []) k ∙ before_hash-begins line b e h;
      place_is = place_of-commented (line ++ b ∷ []) k;
    }

clear-push : (line : List ℕ) (b : ℕ) → has_hash line ≡ false → is_hash b ≡ false → has_hash (line ++ b ∷ []) ≡ false
clear-push line b e h = has_hash-push line b ∙ rw (e, h) refl

stands-tail : (line text tail : List ℕ) → has_hash line ≡ false → HasTail line tail text → Stands line text (place_of_tail tail)
stands-tail line text tail e t = record {
  text_is = certain-clear line e ∙ t.front_is;
  place_is = place_of-clear line e ∙ ap place_of_tail t.tail_is;
}

pub stands-return : (line : List ℕ) (b : ℕ) → has_hash line ≡ false → is_hash b ≡ false → (b == 13) ≡ true → tail_of line ≡ 92 ∷ [] → Stands (line ++ b ∷ []) (certain line) Return
stands-return line b e h r t =
    let P : ℕ → Type 0 = λ n. HasTail (line ++ n ∷ []) (92 ∷ 13 ∷ []) (certain line) in
    let Q : List ℕ → Type 0 = λ f. HasTail (line ++ 13 ∷ []) (92 ∷ 13 ∷ []) f in
    stands-tail (line ++ b ∷ []) (certain line) (92 ∷ 13 ∷ []) (clear-push line b e h) (subst P (sym (eqb-true b 13 r)) (subst Q (sym (certain-clear line e)) (tail-return line t)))

pub stands-backslash : (line : List ℕ) (b : ℕ) → has_hash line ≡ false → is_hash b ≡ false → (b == 92) ≡ true → Stands (line ++ b ∷ []) line Backslash
stands-backslash line b e h r =
    let P : ℕ → Type 0 = λ n. HasTail (line ++ n ∷ []) (92 ∷ []) line in
    stands-tail (line ++ b ∷ []) line (92 ∷ []) (clear-push line b e h) (subst P (sym (eqb-true b 92 r)) (record { tail_is = tail_of-backslash line; front_is = before_tail-backslash line }))

pub stands-other : (line : List ℕ) (b : ℕ) → has_hash line ≡ false → is_hash b ≡ false → (b == 92) ≡ false → ((b == 13) ≡ true → tail_of line ≡ 92 ∷ [] → ⊥) → Stands (line ++ b ∷ []) (line ++ b ∷ []) Text
stands-other line b e h n other =
    stands-tail (line ++ b ∷ []) (line ++ b ∷ []) [] (clear-push line b e h) (tail-other line b n other)

-- a `\` was held back exactly behind a line that ends in one
pub tail-backslash : (line : List ℕ) → is_backslash (place_of_tail (tail_of line)) ≡ true → tail_of line ≡ 92 ∷ []
tail-backslash line e = one (tail_of line) (held-tail line) e where
  one : (tail : List ℕ) → held (place_of_tail tail) ≡ tail → is_backslash (place_of_tail tail) ≡ true → tail ≡ 92 ∷ []
  one [] h e = cc
  one (b ∷ []) h e = sym h
  one (b ∷ c ∷ bs) h e = cc

pub backslash-tail : (line : List ℕ) → tail_of line ≡ 92 ∷ [] → is_backslash (place_of_tail (tail_of line)) ≡ true
backslash-tail line e = rw e refl
