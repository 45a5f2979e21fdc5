-- Numbers by their digits, the first of which counts most: what is left of them falls where a digit grows and none before it changes.
use Rattle.std.proofs.Common.{◌≡◌, ℕ, zero, suc, subst, ◌+◌, ◌-◌, ◌*◌, ◌<◌, ◌≤◌, refl, ⊎_elim, arith}
use Rattle.std.proofs.Math.Nat.{mul-le-mul_right}
use Rattle.std.proofs.lemmas.Bool.{cases_eq}

-- the number of the first digits
pub number : ℕ → (ℕ → ℕ) → ℕ → ℕ
number base d zero = 0
number base d (suc k) = number base d k * base + d k

-- the first number with more digits
pub limit : ℕ → ℕ → ℕ
limit base zero = 1
limit base (suc k) = limit base k * base

abbrev pub left : ℕ → (ℕ → ℕ) → ℕ → ℕ
left base d k = limit base k - number base d k

number_same : (base : ℕ) (d e : ℕ → ℕ) (k : ℕ) → ((i : ℕ) → i < k → d i ≡ e i) → number base d k ≡ number base e k
unfolding number
number_same base d e zero same = refl
number_same base d e (suc k) same =
    let rest : number base d k ≡ number base e k = number_same base d e k (λ i low. same i (omega arith)) in
    let last : d k ≡ e k = same k (omega arith) in
    λ i. rest i * base + last i

times_more : (a b base : ℕ) → a < b → a * base + base ≤ b * base
times_more a b base less = let up : a + 1 ≤ b = omega arith in omega (arith, mul-le-mul_right base up)

number_below : (base : ℕ) (d : ℕ → ℕ) (k : ℕ) → ((i : ℕ) → i < k → d i < base) → number base d k < limit base k
unfolding number limit
number_below base d zero low = omega arith
number_below base d (suc k) low =
    let rest : number base d k < limit base k = number_below base d k (λ i less. low i (omega arith)) in
    let last : d k < base = low k (omega arith) in
    let times = times_more (number base d k) (limit base k) base rest in
    omega arith

number_more : (base : ℕ) (d e : ℕ → ℕ) (k p : ℕ) → p < k → ((i : ℕ) → i < k → d i < base) → ((i : ℕ) → i < p → d i ≡ e i) → d p < e p → number base d k < number base e k
unfolding number
number_more base d e zero p in_range low same more = absurd (omega arith)
number_more base d e (suc k) p in_range low same more =
    ⊎_elim
    (λ (here : p ≡ k).
    let rest : number base d k ≡ number base e k = number_same base d e k (λ i less. same i (omega arith)) in
    let P : ℕ → Type 0 = λ j. d j < e j in
    let last : d k < e k = subst P here more in
    rw rest (omega arith))
    (λ (ne : p ≡ k → ⊥).
    let rest : number base d k < number base e k = number_more base d e k p (omega arith) (λ i less. low i (omega arith)) same more in
    let last : d k < base = low k (omega arith) in
    let times = times_more (number base d k) (number base e k) base rest in
    omega arith)
    (cases_eq p k)

-- a digit grows: less is left
pub left_falls : (base : ℕ) (d e : ℕ → ℕ) (k p : ℕ) → p < k → ((i : ℕ) → i < k → d i < base) → ((i : ℕ) → i < p → d i ≡ e i) → d p < e p → left base e k < left base d k
left_falls base d e k p in_range low same more =
    let up : number base d k < number base e k = number_more base d e k p in_range low same more in
    let below : number base d k < limit base k = number_below base d k low in
    omega arith
