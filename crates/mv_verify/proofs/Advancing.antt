-- The first values advance: read as digits, each one more, they grow.
use Rattle.std.proofs.Common.{◌≡◌, ℕ, ◌+◌, ◌<◌, ◌≤◌, cond, nat_lt, List, length, set, refl, ap, ⊎_elim, arith, get_or-set_same, get_or-set_other}
use Rattle.std.specs.Prelude.{slice_index}
use Rattle.std.proofs.lemmas.Bool.{cases_eq, cases_lt, lt-ltb, le-ltb}
use Rattle.mv_solve.proofs.Mixed.{left, left_falls}
use Rattle.mv_verify.specs.Prefixes.{IsNext}

-- the digit at a place: one more than the value, where it is one of the first
digit : (ℕ → ℕ) → ℕ → ℕ → ℕ
digit values end k = cond (nat_lt k end) (values k + 1) 0

digit_on : (values : ℕ → ℕ) (end k : ℕ) → k < end → digit values end k ≡ values k + 1
unfolding digit
digit_on values end k less = rw (lt-ltb k end less) refl

digit_off : (values : ℕ → ℕ) (end k : ℕ) → end ≤ k → digit values end k ≡ 0
unfolding digit
digit_off values end k past = rw (le-ltb k end past) refl

-- each value is below this
pub record AreBelow (base end : ℕ) (values : ℕ → ℕ) : Type 0 where
  pub each : (k : ℕ) → k < end → values k < base

digit_below : (base end : ℕ) (values : ℕ → ℕ) (k : ℕ) → AreBelow base end values → digit values end k < base + 1
digit_below base end values k low =
    ⊎_elim
    (λ (less : k < end). omega (arith, digit_on values end k less, low.each k less))
    (λ (past : end ≤ k). omega (arith, digit_off values end k past))
    (cases_lt k end)

pub none_below : (base : ℕ) (values : ℕ → ℕ) → AreBelow base 0 values
none_below base values = record { each = λ k less. absurd (omega arith) }

pub deeper_below : (base : ℕ) (values : List ℕ) (end : ℕ) → 0 < base → end < length values → AreBelow base end (slice_index values) → AreBelow base (end + 1) (slice_index (set values end 0))
deeper_below base values end some inside low = record {
  each = λ k less.
      ⊎_elim
      (λ (e : k ≡ end).
      let here : slice_index (set values end 0) end ≡ 0 = get_or-set_same values end 0 0 inside in
      let same : slice_index (set values end 0) k ≡ slice_index (set values end 0) end = ap (slice_index (set values end 0)) e in
      omega arith)
      (λ (ne : k ≡ end → ⊥).
      let kept : slice_index (set values end 0) k ≡ slice_index values k = get_or-set_other values end k 0 0 ne in
      omega (arith, low.each k (omega arith)))
      (cases_eq k end);
}

pub next_below : (base : ℕ) (counts old new : ℕ → ℕ) (end next : ℕ) → AreBelow base end old → IsNext counts old new end next → ((k : ℕ) → new k < base) → AreBelow base next new
next_below base counts old new end next low n fits = record { each = λ k less. fits k }

-- what is left to go through of so many values
pub to_go : ℕ → ℕ → (ℕ → ℕ) → ℕ → ℕ
to_go base all values end = left (base + 1) (digit values end) all

pub falls_deeper : (base : ℕ) (values : List ℕ) (end : ℕ) → end < length values → AreBelow base end (slice_index values) → to_go base (length values) (slice_index (set values end 0)) (end + 1) < to_go base (length values) (slice_index values) end
unfolding to_go
falls_deeper base values end inside low =
    let now = slice_index (set values end 0) in
    left_falls (base + 1) (digit (slice_index values) end) (digit now (end + 1)) (length values) end inside (λ k _. digit_below base end (slice_index values) k low)
    (λ k less.
    let kept : now k ≡ slice_index values k = get_or-set_other values end k 0 0 (λ e. absurd (omega arith)) in
    omega (arith, digit_on (slice_index values) end k less, digit_on now (end + 1) k (omega arith)))
    (omega (arith, digit_off (slice_index values) end end (omega arith), digit_on now (end + 1) end (omega arith)))

pub falls_next : (base all : ℕ) (counts old new : ℕ → ℕ) (end next : ℕ) → end ≤ all → AreBelow base end old → IsNext counts old new end next → to_go base all new next < to_go base all old end
unfolding to_go
falls_next base all counts old new end next inside low n =
    let q = n.place in
    let back : q < end = n.back in
    let behind : next ≡ q + 1 = n.behind in
    let more : new q ≡ old q + 1 = n.more in
    left_falls (base + 1) (digit old end) (digit new next) all q (omega arith) (λ k _. digit_below base end old k low)
    (λ k less. omega (arith, digit_on old end k (omega arith), digit_on new next k (omega arith), n.same.each k less))
    (omega (arith, digit_on old end q back, digit_on new next q (omega arith)))
