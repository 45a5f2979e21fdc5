-- The front of a list that passes a test, found by going along the list; and a list cut at commas.
use Rattle.std.proofs.Common.{◌≡◌, ℕ, ◌+◌, ◌<◌, ◌≤◌, Bool, true, false, ◌==◌, List, [], ◌∷◌, length, get_or, take, drop, refl, ap, sym, ◌∙◌, arith, suc, add-one, drop-cons, ⊎_elim}
use Rattle.std.proofs.lemmas.Bool.{cases_Bool, cond-true, cond-false, not_from_true, not_from_false}
use Rattle.std.specs.List.{slice_split, onto_first}
use Rattle.mv_lex.specs.Words.{front, behind}
use Rattle.mv_word.specs.Entries.{is_inside}

-- a word of one byte is that byte
pub only_byte : (w : List ℕ) → 1 ≤ length w → length w < 2 → get_or w 0 0 ∷ [] ≡ w
only_byte [] h k = absurd (omega (arith, h))
only_byte (b ∷ []) h k = refl
only_byte (b ∷ c ∷ bs) h k = absurd (omega (arith, k))

-- so many bytes were passed, and the front and what is behind it go on there
pub record IsPassed (p : ℕ → Bool) (xs : List ℕ) (at : ℕ) : Type 0 where
  pub count : length (front p xs) ≡ at + length (front p (drop at xs))
  pub rest : behind p xs ≡ behind p (drop at xs)

-- one more that passes
pub passed_more : (p : ℕ → Bool) (xs : List ℕ) (at : ℕ) → IsPassed p xs at → at < length xs → p (get_or xs at 0) ≡ true → IsPassed p xs (at + 1)
passed_more p xs at h low pass =
    let here : drop at xs ≡ get_or xs at 0 ∷ drop (at + 1) xs = rw add-one (drop-cons xs at 0 low) in
    let f : front p (drop at xs) ≡ get_or xs at 0 ∷ front p (drop (at + 1) xs) = ap (front p) here ∙ cond-true (p (get_or xs at 0)) _ _ pass in
    let b : behind p (drop at xs) ≡ behind p (drop (at + 1) xs) = ap (behind p) here ∙ cond-true (p (get_or xs at 0)) _ _ pass in
    record {
      count = omega (arith, h.count, ap length f);
      rest = h.rest ∙ b;
    }

-- ---- a list cut at commas

-- the first piece is the front without commas
pub record IsCut (xs : List ℕ) (size : ℕ) : Type 0 where
  pub last : size ≡ length xs → slice_split (λ b. b == 44) xs ≡ take size xs ∷ []
  pub more : size < length xs → slice_split (λ b. b == 44) xs ≡ take size xs ∷ slice_split (λ b. b == 44) (drop (size + 1) xs)

pub cut_at_front : (xs : List ℕ) (size : ℕ) → size ≡ length (front is_inside xs) → IsCut xs size
cut_at_front [] size e = record { last = λ s. rw s refl; more = λ l. absurd (omega arith) }
cut_at_front (b ∷ xs) size e =
    ⊎_elim
    (λ (h : (b == 44) ≡ true). (
    let none : length (front is_inside (b ∷ xs)) ≡ 0 = ap length (cond-false (is_inside b) _ _ (not_from_true (b == 44) h)) in
    let zero_size : size ≡ 0 = e ∙ none in
    record {
      last = λ s. absurd (omega arith);
      more = λ l. rw (zero_size, cond-true (b == 44) ([] ∷ slice_split (λ c. c == 44) xs) (onto_first b (slice_split (λ c. c == 44) xs)) h) refl;
    }
    ))
    (λ (h : (b == 44) ≡ false). (
    let some : length (front is_inside (b ∷ xs)) ≡ length (b ∷ front is_inside xs) = ap length (cond-true (is_inside b) _ _ (not_from_false (b == 44) h)) in
    let rest = cut_at_front xs (length (front is_inside xs)) refl in
    let split : slice_split (λ c. c == 44) (b ∷ xs) ≡ onto_first b (slice_split (λ c. c == 44) xs) = cond-false (b == 44) _ _ h in
    let same : size ≡ suc (length (front is_inside xs)) = omega arith in
    let next : size + 1 ≡ suc (length (front is_inside xs) + 1) = omega arith in
    record {
      last = λ s. rw (same, split, rest.last (omega arith)) refl;
      more = λ l. split ∙ (ap (onto_first b) (rest.more (omega arith)) ∙ sym (rw (next, same) refl));
    }
    ))
    (cases_Bool (b == 44))
