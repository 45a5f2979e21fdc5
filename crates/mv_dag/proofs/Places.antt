-- Values that rise, at places of values that rise: each stands no lower than at its own place, counted from the first or from
-- the last.
use Rattle.std.proofs.Common.{◌≡◌, ℕ, zero, suc, ◌+◌, ◌-◌, ◌<◌, ◌≤◌, ap, ⊎_elim, arith}
use Rattle.std.proofs.lemmas.Bool.{cases_order}

-- the values rise at the places below m
abbrev pub Rises : (ℕ → ℕ) → ℕ → Type 0
Rises f m = (i j : ℕ) → i < j → j < m → f i < f j

-- x is the value at one of the first n places
pub record StandsIn (s : ℕ → ℕ) (n x : ℕ) : Type 0 where
  pub place : ℕ
  pub within : place < n
  pub is : s place ≡ x

-- of two values the lower one stands before
pub lower_first : (s : ℕ → ℕ) (n : ℕ) → Rises s n → (i j : ℕ) → i < n → s i < s j → i < j
lower_first s n rise i j h lt =
    ⊎_elim
    (λ (y : i ≡ j). let e : s i ≡ s j = ap s y in absurd (omega arith))
    (⊎_elim (λ (y : i < j). y) (λ (y : j < i). let l = rise j i y h in absurd (omega arith)))
    (cases_order i j)

-- and so does an equal one
pub never_falls : (s : ℕ → ℕ) (n : ℕ) → Rises s n → (i j : ℕ) → i ≤ j → j < n → s i ≤ s j
never_falls s n rise i j h l =
    ⊎_elim
    (λ (y : i ≡ j). let e : s i ≡ s j = ap s y in omega arith)
    (⊎_elim (λ (y : i < j). let l = rise i j y l in omega arith) (λ (y : j < i). absurd (omega arith)))
    (cases_order i j)

-- values that stand once each
pub same_place : (s : ℕ → ℕ) (n : ℕ) → Rises s n → (i j : ℕ) → i < n → j < n → s i ≡ s j → i ≡ j
same_place s n rise i j h l e =
    ⊎_elim (λ (y : i ≡ j). y)
    (⊎_elim (λ (y : i < j). let r = rise i j y l in absurd (omega arith)) (λ (y : j < i). let r = rise j i y h in absurd (omega arith)))
    (cases_order i j)

module _ (f s : ℕ → ℕ) (m n : ℕ) (f_rises : Rises f m) (s_rises : Rises s n) (stands : (i : ℕ) → i < m → StandsIn s n (f i)) where
  goes_on : (i j : ℕ) (h : i < m) (l : j < m) → i < j → (stands i h).place < (stands j l).place
  goes_on i j h l lt =
      let p = stands i h in
      let q = stands j l in
      let r = f_rises i j lt l in
      lower_first s n s_rises p.place q.place p.within (let e = p.is in let d = q.is in omega arith)

  from_first : (i : ℕ) (h : i < m) → i ≤ (stands i h).place
  from_first zero h = omega arith
  from_first (suc i) h =
      let before : i < m = omega arith in
      let low = from_first i before in
      let more = goes_on i (suc i) before h (omega arith) in
      omega arith

  from_last : (d j : ℕ) (h : j < m) → j + d + 1 ≡ m → (stands j h).place + d < n
  from_last zero j h e = let w = (stands j h).within in omega arith
  from_last (suc d) j h e =
      let next : suc j < m = omega arith in
      let high = from_last d (suc j) next (omega arith) in
      let more = goes_on j (suc j) h next (omega arith) in
      omega arith

  -- counted from the first
  pub no_lower : (i : ℕ) → i < m → s i ≤ f i
  no_lower i h =
      let p = stands i h in
      let l = never_falls s n s_rises i p.place (from_first i h) p.within in
      let e = p.is in
      omega arith

  -- counted from the last
  pub no_higher : (j k : ℕ) → j < m → k + m ≡ n → f j ≤ s (k + j)
  no_higher j k h e =
      let p = stands j h in
      let low = from_last (m - 1 - j) j h (omega arith) in
      let l = never_falls s n s_rises p.place (k + j) (omega arith) (omega arith) in
      let i = p.is in
      omega arith
