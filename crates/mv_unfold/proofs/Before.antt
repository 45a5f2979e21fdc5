-- How many elements at the front of a list stand before a line.
use Rattle.std.proofs.Common.{◌≡◌, ℕ, zero, suc, ◌+◌, ◌<◌, ◌≤◌, Bool, true, false, List, [], ◌∷◌, length, get_or, refl, ap, arith}
use Rattle.std.specs.Prelude.{nat_lt, if◌then◌else◌}
use Rattle.std.proofs.lemmas.Bool.Decides.{nat_tests}
use Rattle.mv_design.specs.ByLine.{before_line}

pub before_zero : {X : Type 0} (line : X → ℕ) (ys : List X) → 0 ≡ length (before_line line 0 ys)
before_zero line [] = refl
before_zero {X} line (y ∷ ys) = split (nat_lt (line y) 0) (grind (arith, nat_tests))
  where
    split : (b : Bool) → b ≡ false → 0 ≡ length {A = X} (if b then y ∷ before_line line 0 ys else [])
    split true e = cc
    split false e = refl

-- before a later line stand no fewer
pub before_later : {X : Type 0} (line : X → ℕ) (low at : ℕ) (ys : List X) → low ≤ at → length (before_line line low ys) ≤ length (before_line line at ys)
before_later line low at [] h = omega arith
before_later {X} line low at (y ∷ ys) h = split (nat_lt (line y) low) (nat_lt (line y) at) refl refl (before_later line low at ys h)
  where
    split : (b c : Bool) → nat_lt (line y) low ≡ b → nat_lt (line y) at ≡ c → length (before_line line low ys) ≤ length (before_line line at ys)
        → length {A = X} (if b then y ∷ before_line line low ys else []) ≤ length {A = X} (if c then y ∷ before_line line at ys else [])
    split true true e f i = omega arith
    split true false e f i = absurd (wrong (line y) e f)
      where
        wrong : (n : ℕ) → nat_lt n low ≡ true → nat_lt n at ≡ false → ⊥
        wrong n e f = grind (arith, nat_tests)
    split false true e f i = omega arith
    split false false e f i = omega arith

-- one more stands before it
pub before_next : {X : Type 0} (line : X → ℕ) (at : ℕ) (ys : List X) (i : ℕ) (z : X) → i < length ys → nat_lt (line (get_or ys i z)) at ≡ true → i ≤ length (before_line line at ys)
    → i + 1 ≤ length (before_line line at ys)
before_next line at [] i z lt e h = absurd (omega arith)
before_next {X} line at (y ∷ ys) zero z lt e h = split (nat_lt (line y) at) e
  where
    split : (b : Bool) → b ≡ true → 0 + 1 ≤ length {A = X} (if b then y ∷ before_line line at ys else [])
    split true e = omega arith
    split false e = cc
before_next {X} line at (y ∷ ys) (suc i) z lt e h = split (nat_lt (line y) at) h (λ l. before_next line at ys i z (omega arith) e l)
  where
    split : (b : Bool) → suc i ≤ length {A = X} (if b then y ∷ before_line line at ys else [])
        → (i ≤ length (before_line line at ys) → i + 1 ≤ length (before_line line at ys))
        → suc i + 1 ≤ length {A = X} (if b then y ∷ before_line line at ys else [])
    split true l n = let m = n (omega arith) in omega arith
    split false l n = absurd (omega arith)

-- no more stand before it
pub before_here : {X : Type 0} (line : X → ℕ) (at : ℕ) (ys : List X) (i : ℕ) (z : X) → i < length ys → nat_lt (line (get_or ys i z)) at ≡ false → i ≤ length (before_line line at ys)
    → i ≡ length (before_line line at ys)
before_here line at [] i z lt e h = absurd (omega arith)
before_here {X} line at (y ∷ ys) zero z lt e h = split (nat_lt (line y) at) e
  where
    split : (b : Bool) → b ≡ false → 0 ≡ length {A = X} (if b then y ∷ before_line line at ys else [])
    split true e = cc
    split false e = refl
before_here {X} line at (y ∷ ys) (suc i) z lt e h = split (nat_lt (line y) at) h (λ l. before_here line at ys i z (omega arith) e l)
  where
    split : (b : Bool) → suc i ≤ length {A = X} (if b then y ∷ before_line line at ys else [])
        → (i ≤ length (before_line line at ys) → i ≡ length (before_line line at ys))
        → suc i ≡ length {A = X} (if b then y ∷ before_line line at ys else [])
    split true l n = ap suc (n (omega arith))
    split false l n = absurd (omega arith)
