-- Where the cubes of marked codes hold: where the code that the bits are is marked.
use Rattle.std.proofs.Common.{◌≡◌, ◌∙◌, ℕ, zero, suc, ◌+◌, ◌*◌, ◌^◌, ◌<◌, Bool, true, false, ◌&&◌, ◌||◌, ◌⊎◌, List, [], ◌∷◌, map, length, take, drop, get_or, nat_eq, inl, inr, refl, sym, ap, subst, arith}
use Rattle.std.specs.Bool.{beq}
use Rattle.std.specs.List.{list_any, list_all}
use Rattle.std.specs.Cmp.{booleans_Decides}
use Rattle.std.specs.Cmp.Lexicographic.{pointwise, pointwise_decides}
use Rattle.std.proofs.Math.Bool.{or-false, and-false}
use Rattle.std.proofs.Math.Nat.{pow-suc}
use Rattle.std.proofs.lemmas.Bool.{cases_Bool, false≢true, cases_eq, or_parts}
use Rattle.std.proofs.lemmas.List.{length-take-le, length-drop, get_or-take, get_or-drop}
use Rattle.std.proofs.lemmas.List.Folds.{list_all_at}
use Rattle.mv_base.specs.Set.{has}
use Rattle.mv_base.proofs.Sets.{has-one}
use Rattle.mv_cover.specs.Literal.{Lit}
use Rattle.mv_cover.specs.Cubes.{matches}
use Rattle.mv_cover.specs.Cofactors.{cubes_match}
use Rattle.mv_composite.proofs.Cubes.{match-append}
use Rattle.mv_codes.specs.CodeCubes.{bit_literal, code_cubes, number_at}

-- ---- marks

-- a mark of marks that are all set, or of none that is
mark_of_all : (marks : List Bool) (i : ℕ) → list_all (λ m. m) marks ≡ true → i < length marks → get_or marks i false ≡ true
mark_of_all marks i all low =
    elim (cases_Bool (get_or marks i false)) [
      | inl t ↦ t
      | inr f ↦ absurd (false≢true (sym (list_all_at (λ m. m) marks i false low f) ∙ all))
    ]

mark_of_none : (marks : List Bool) (i : ℕ) → list_any (λ m. m) marks ≡ false → get_or marks i false ≡ false
mark_of_none [] i none = refl
mark_of_none (m ∷ ms) zero none = (or_parts m (list_any (λ m. m) ms) none).0
mark_of_none (m ∷ ms) (suc i) none = mark_of_none ms i (or_parts m (list_any (λ m. m) ms) none).1

-- ---- the number that bits have

-- bits from the next one on
next_bits : (at : ℕ → ℕ) (n k : ℕ) → ((j : ℕ) → j < suc k → at (n + j) < 2) → (j : ℕ) → j < k → at (n + 1 + j) < 2
next_bits at n k two j low = subst (λ m. at m < 2) (omega arith) (two (suc j) (omega arith))

first_bit : (at : ℕ → ℕ) (n k : ℕ) → ((j : ℕ) → j < suc k → at (n + j) < 2) → (at n ≡ 0) ⊎ (at n ≡ 1)
first_bit at n k two =
    let low : at n < 2 = subst (λ m. at m < 2) (omega arith) (two 0 (omega arith)) in
    elim (cases_eq (at n) 0) [
      | inl z ↦ inl z
      | inr s ↦ inr (omega arith)
    ]

pub number_low : (at : ℕ → ℕ) (n k : ℕ) → ((j : ℕ) → j < k → at (n + j) < 2) → number_at at n k < 2 ^ k
number_low at n zero two = omega arith
number_low at n (suc k) two =
    let rest = number_low at (n + 1) k (next_bits at n k two) in
    let double : 2 ^ suc k ≡ 2 ^ k * 2 = pow-suc 2 k in
    elim (first_bit at n k two) [
      | inl z ↦ rw z (omega (arith, rest, double))
      | inr o ↦ rw o (omega (arith, rest, double))
    ]

-- ---- the cubes

-- each of the cubes with a literal more
matches-more : (at : ℕ → ℕ) (l : Lit) (cs : List (List Lit)) → cubes_match at (map (λ c. l ∷ c) cs) ≡ (has l.set (at l.net.0) && cubes_match at cs)
matches-more at l [] = sym (and-false (has l.set (at l.net.0)))
matches-more at l (c ∷ cs) = ap (λ b. (has l.set (at l.net.0) && matches at c) || b) (matches-more at l cs) ∙ split (has l.set (at l.net.0)) (matches at c) (cubes_match at cs) where
  split : (h m r : Bool) → ((h && m) || (h && r)) ≡ (h && (m || r))
  split true m r = refl
  split false m r = refl

-- a mark of the halves is one of the whole
mark_low : (marks : List Bool) (h r : ℕ) → r < h → get_or (take h marks) r false ≡ get_or marks r false
mark_low marks h r low = get_or-take h marks r false low

mark_high : (marks : List Bool) (h r : ℕ) → get_or (drop h marks) r false ≡ get_or marks (h + r) false
mark_high marks h r = get_or-drop h marks r false

-- the half that the first bit tells
low_half : (b : ℕ) (x y : Bool) → b ≡ 0 → ((nat_eq b 0 && x) || (nat_eq b 1 && y)) ≡ x
low_half b x y e = rw e (or-false x)

high_half : (b : ℕ) (x y : Bool) → b ≡ 1 → ((nat_eq b 0 && x) || (nat_eq b 1 && y)) ≡ y
high_half b x y e = rw e refl

-- some cube holds exactly where the code is marked that the bits are
pub match-code_cubes : (at : ℕ → ℕ) (k n : ℕ) (marks : List Bool) → length marks ≡ 2 ^ k → ((j : ℕ) → j < k → at (n + j) < 2) → cubes_match at (code_cubes k n marks) ≡ get_or marks (number_at at n k) false
match-code_cubes at zero n [] long two = absurd (omega arith)
match-code_cubes at zero n (true ∷ []) long two = refl
match-code_cubes at zero n (false ∷ []) long two = refl
match-code_cubes at zero n (m ∷ o ∷ ms) long two = absurd (omega arith)
match-code_cubes at (suc k) n marks long two =
    let half = 2 ^ k in
    let low = take half marks in
    let high = drop half marks in
    let double : 2 ^ suc k ≡ half * 2 = pow-suc 2 k in
    let low_long : length low ≡ half = length-take-le half marks (omega (arith, double, long)) in
    let high_long : length high ≡ half = length-drop half marks ∙ omega (arith, double, long) in
    let next = next_bits at n k two in
    let number = number_at at n (suc k) in
    let rest = number_at at (n + 1) k in
    let small = number_low at (n + 1) k next in
    let ih_low = match-code_cubes at k (n + 1) low low_long next in
    let ih_high = match-code_cubes at k (n + 1) high high_long next in
    let at_low : at n ≡ 0 → get_or low rest false ≡ get_or marks number false = λ z. mark_low marks half rest small ∙ ap (λ i. get_or marks i false) (rw z (omega arith)) in
    let at_high : at n ≡ 1 → get_or high rest false ≡ get_or marks number false = λ o. mark_high marks half rest ∙ ap (λ i. get_or marks i false) (rw o (omega arith)) in
    elim (cases_Bool (list_all (λ m. m) marks)) [
      | inl all ↦ rw all (sym (mark_of_all marks number all (omega (arith, long, number_low at n (suc k) two))))
      | inr some_not ↦
          elim (cases_Bool (list_any (λ m. m) marks)) [
            | inr none ↦ rw some_not (rw none (sym (mark_of_none marks number none)))
            | inl some ↦
                elim (cases_Bool (pointwise beq low high)) [
                  | inl same ↦
                      let equal : low ≡ high = (pointwise_decides booleans_Decides low high).0 same in
                      rw some_not (rw some (rw same (ih_low ∙
                      elim (first_bit at n k two) [
                        | inl z ↦ at_low z
                        | inr o ↦ ap (λ ms. get_or ms rest false) equal ∙ at_high o
                      ])))
                  | inr other ↦
                      rw some_not (rw some (rw other (
                      match-append at (map (λ c. bit_literal n 0 ∷ c) (code_cubes k (n + 1) low)) (map (λ c. bit_literal n 1 ∷ c) (code_cubes k (n + 1) high))
                      ∙ ((λ i. matches-more at (bit_literal n 0) (code_cubes k (n + 1) low) i || matches-more at (bit_literal n 1) (code_cubes k (n + 1) high) i)
                      ∙ ((λ i. (has-one 0 (at n) i && ih_low i) || (has-one 1 (at n) i && ih_high i))
                      ∙ elim (first_bit at n k two) [
                        | inl z ↦ low_half (at n) (get_or low rest false) (get_or high rest false) z ∙ at_low z
                        | inr o ↦ high_half (at n) (get_or low rest false) (get_or high rest false) o ∙ at_high o
                      ])))))
                ]
          ]
    ]
