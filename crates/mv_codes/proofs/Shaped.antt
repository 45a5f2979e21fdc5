-- The cubes of marked codes are cubes over nets of two values, and read no others.
use Rattle.std.proofs.Common.{◌≡◌, ◌∙◌, ℕ, zero, suc, ◌+◌, ◌^◌, ◌<◌, ◌≤◌, Bool, true, not, All, List, [], ◌∷◌, map, take, drop, get_or, nat_eq, inl, inr, refl, sym, ap, subst, arith, lit≤}
use Rattle.std.specs.Bool.{beq}
use Rattle.std.specs.List.{list_any, list_all}
use Rattle.std.specs.Cmp.Lexicographic.{pointwise}
use Rattle.std.proofs.lemmas.Bool.{cases_Bool, false≢true, and_from, or_cases, not_from_false}
use Rattle.std.proofs.lemmas.Bool.Decides.{Decides-ltb}
use Rattle.std.proofs.lemmas.List.Elements.{All-nil, All-cons, All-append, All-map, All-weaker}
use Rattle.mv_base.specs.Set.{has, empty, one, full}
use Rattle.mv_base.proofs.Sets.{has-one, has-full}
use Rattle.mv_base.specs.declared.limits.TheConstants.{MAX_VALUES}
use Rattle.mv_cover.specs.Literal.{Lit}
use Rattle.mv_cover.specs.Cubes.{IsCube}
use Rattle.mv_cover.specs.Covers.{cube_reads}
use Rattle.mv_cover.specs.Containing.{FitsNet, FitsCube}
use Rattle.mv_cover.specs.Sharp.{IsCubeOver}
use Rattle.mv_cover.proofs.Covering.{same_number}
use Rattle.mv_cover.proofs.Meets.{Rises, ascend-Rises}
use Rattle.mv_cover.proofs.Points.{one_some}
use Rattle.mv_codes.specs.CodeCubes.{bit_literal, code_cubes}

-- ---- a cube over so many nets of bits, from n on

-- the nets from n on, so many, have two values
abbrev pub HaveTwo : List ℕ → ℕ → ℕ → Type 0
HaveTwo counts n k = (m : ℕ) → n ≤ m → m < n + k → get_or counts m 0 ≡ 2

pub record IsBitCube (n k : ℕ) (c : List Lit) : Type 0 where
  pub rises : Rises n c
  pub possible : list_all (λ (l : Lit). not (nat_eq l.set empty)) c ≡ true
  pub fits : (counts : List ℕ) → HaveTwo counts n k → FitsCube counts c
  pub reads : (m : ℕ) → cube_reads c m ≡ true → (n ≤ m) × (m < n + k)

rises_wider : (n : ℕ) (c : List Lit) → Rises (n + 1) c → Rises n c
rises_wider n [] r = tt
rises_wider n (l ∷ ls) r = (omega (arith, r.0), r.1)

two_behind : (counts : List ℕ) (n k : ℕ) → HaveTwo counts n (suc k) → HaveTwo counts (n + 1) k
two_behind counts n k two m from below = two m (omega arith) (omega arith)

bare_cube : (n k : ℕ) → IsBitCube n k []
bare_cube n k = record { rises = tt; possible = refl; fits = λ counts two. tt; reads = λ m h. absurd (false≢true h) }

later_cube : (n k : ℕ) (c : List Lit) → IsBitCube (n + 1) k c → IsBitCube n (suc k) c
later_cube n k c is = record {
  rises = rises_wider n c is.rises;
  possible = is.possible;
  fits = λ counts two. is.fits counts (two_behind counts n k two);
  reads = λ m h. let r = is.reads m h in (omega (arith, r.0), omega (arith, r.1));
}

-- the set of one bit isn't that of both
one_not_full : (b : ℕ) → b < 2 → one b ≡ full 2 → ⊥
one_not_full zero low e = false≢true (sym (has-one 0 1) ∙ (ap (λ s. has s 1) e ∙ has-full 2 1))
one_not_full (suc zero) low e = false≢true (sym (has-one 1 0) ∙ (ap (λ s. has s 0) e ∙ has-full 2 0))
one_not_full (suc (suc b)) low e = absurd (omega arith)

fits_one : (counts : List ℕ) (n b : ℕ) → b < 2 → get_or counts n 0 ≡ 2 → FitsNet counts n (one b)
fits_one counts n b low two = record {
  valued = omega (arith, two);
  within = λ v h.
      let same : v ≡ b = same_number v b (sym (has-one b v) ∙ h) in
      rw two (has-full 2 v ∙ (Decides-ltb v 2).1 (omega (arith, same)));
  not_full = λ e. one_not_full b low (e ∙ ap full two);
}

asking_cube : (n k b : ℕ) (c : List Lit) → b < 2 → IsBitCube (n + 1) k c → IsBitCube n (suc k) (bit_literal n b ∷ c)
asking_cube n k b c low is = record {
  rises = (omega arith, is.rises);
  possible = and_from (not (nat_eq (one b) empty)) (list_all (λ (l : Lit). not (nat_eq l.set empty)) c) (not_from_false (nat_eq (one b) empty) (one_some b)) is.possible;
  fits = λ counts two. (fits_one counts n b low (two n (omega arith) (omega arith)), is.fits counts (two_behind counts n k two));
  reads = λ m h.
      elim (or_cases (nat_eq n m) (cube_reads c m) h) [
        | inl t ↦ let same : n ≡ m = same_number n m t in (omega (arith, same), omega (arith, same))
        | inr r ↦ let q = is.reads m r in (omega (arith, q.0), omega (arith, q.1))
      ];
}

-- ---- the cubes of marked codes

alone : (n k : ℕ) → All (IsBitCube n k) ([] ∷ [])
alone n k = All-cons (IsBitCube n k) [] [] (bare_cube n k) (All-nil (IsBitCube n k))

pub bit_cubes : (k n : ℕ) (marks : List Bool) → All (IsBitCube n k) (code_cubes k n marks)
bit_cubes zero n marks =
    elim (cases_Bool (list_all (λ m. m) marks)) [
      | inl t ↦ rw t (alone n 0)
      | inr f ↦ rw f (All-nil (IsBitCube n 0))
    ]
bit_cubes (suc k) n marks =
    let P = IsBitCube n (suc k) in
    let Q = IsBitCube (n + 1) k in
    let low = take (2 ^ k) marks in
    let high = drop (2 ^ k) marks in
    let of_low = bit_cubes k (n + 1) low in
    let of_high = bit_cubes k (n + 1) high in
    elim (cases_Bool (list_all (λ m. m) marks)) [
      | inl all ↦ rw all (alone n (suc k))
      | inr some_not ↦
          elim (cases_Bool (list_any (λ m. m) marks)) [
            | inr none ↦ rw some_not (rw none (All-nil P))
            | inl some ↦
                elim (cases_Bool (pointwise beq low high)) [
                  | inl same ↦ rw some_not (rw some (rw same (All-weaker Q P (later_cube n k) (code_cubes k (n + 1) low) of_low)))
                  | inr other ↦
                      rw some_not (rw some (rw other (
                      All-append P (map (λ c. bit_literal n 0 ∷ c) (code_cubes k (n + 1) low)) (map (λ c. bit_literal n 1 ∷ c) (code_cubes k (n + 1) high))
                      (All-map P (λ c. bit_literal n 0 ∷ c) (code_cubes k (n + 1) low) (All-weaker Q (λ c. P (bit_literal n 0 ∷ c)) (λ c is. asking_cube n k 0 c (omega arith) is) (code_cubes k (n + 1) low) of_low))
                      (All-map P (λ c. bit_literal n 1 ∷ c) (code_cubes k (n + 1) high) (All-weaker Q (λ c. P (bit_literal n 1 ∷ c)) (λ c is. asking_cube n k 1 c (omega arith) is) (code_cubes k (n + 1) high) of_high)))))
                ]
          ]
    ]

pub IsCube-bits : (n k : ℕ) (c : List Lit) → IsBitCube n k c → IsCube c
IsCube-bits n k c is = record { ascending = ascend-Rises n c is.rises; possible = is.possible }

pub over-bits : (counts : List ℕ) (n k : ℕ) (c : List Lit) → HaveTwo counts n k → IsBitCube n k c → IsCubeOver counts c
over-bits counts n k c two is = record {
  cube = IsCube-bits n k c is;
  suits = record {
    fits = is.fits counts two;
    few = λ m h. let r = is.reads m h in subst (λ v. v ≤ MAX_VALUES) (sym (two m r.0 r.1)) (lit≤ tt);
  };
}
