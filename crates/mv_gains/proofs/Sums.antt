-- Sums of numbers of which one is said of each of a list, and of those of some places of it.
use Rattle.std.proofs.Common.{◌≡◌, ◌∙◌, ℕ, zero, suc, ◌+◌, ◌<◌, ◌≤◌, ◌⊎◌, List, [], ◌∷◌, ◌++◌, length, map, get_or, Contains, inl, inr, refl, sym, subst, arith}
use Rattle.std.proofs.lemmas.Bool.{cases_lt}
use Rattle.std.proofs.lemmas.List.Sums.{sum_by-cons}
use Rattle.std.specs.List.{sum_by}
use Rattle.mv_kernels.proofs.Lists.{Contains-none, Contains-first, Contains-behind, Contains-cons_cases}
use Rattle.mv_gains.specs.Gains.{IsSum}
use Rattle.mv_gains.specs.Holders.{Ascends}

module _ {X : Type 0} where
  pub sum_more : (Is : X → ℕ → Type 0) (x : X) (xs : List X) (n m : ℕ) → Is x n → IsSum Is xs m → IsSum Is (x ∷ xs) (n + m)
  sum_more Is x xs n m h s = record { first = n; is = h; rest = m; others = s; sum = refl }

  pub sum_push : (Is : X → ℕ → Type 0) (xs : List X) (x : X) (n m : ℕ) → IsSum Is xs n → Is x m → IsSum Is (xs ++ x ∷ []) (n + m)
  sum_push Is [] x n m s h = record { first = m; is = h; rest = 0; others = refl; sum = omega (arith, s) }
  sum_push Is (y ∷ ys) x n m s h =
      record { first = s.first; is = s.is; rest = s.rest + m; others = sum_push Is ys x s.rest m s.others h; sum = omega (arith, s.sum) }

  pub sum_weaker : (Is As : X → ℕ → Type 0) (xs : List X) (n : ℕ) → ((x : X) (m : ℕ) → Contains xs x → Is x m → As x m) → IsSum Is xs n → IsSum As xs n
  sum_weaker Is As [] n f s = s
  sum_weaker Is As (x ∷ xs) n f s = record {
    first = s.first;
    is = f x s.first (Contains-first x xs) s.is;
    rest = s.rest;
    others = sum_weaker Is As xs s.rest (λ y m i h. f y m (Contains-behind y x xs i) h) s.others;
    sum = s.sum;
  }

  -- there is one sum at most
  pub sum_once : (Is : X → ℕ → Type 0) (xs : List X) (n m : ℕ) → ((x : X) (a b : ℕ) → Contains xs x → Is x a → Is x b → a ≡ b) → IsSum Is xs n → IsSum Is xs m → n ≡ m
  sum_once Is [] n m f s t = s ∙ sym t
  sum_once Is (x ∷ xs) n m f s t =
      let here = f x s.first t.first (Contains-first x xs) s.is t.is in
      let rest = sum_once Is xs s.rest t.rest (λ y a b i. f y a b (Contains-behind y x xs i)) s.others t.others in
      omega (arith, here, rest, s.sum, t.sum)

  pub sum_zero : (Is : X → ℕ → Type 0) (xs : List X) → ((x : X) → Contains xs x → Is x 0) → IsSum Is xs 0
  sum_zero Is [] f = refl
  sum_zero Is (x ∷ xs) f = sum_more Is x xs 0 0 (f x (Contains-first x xs)) (sum_zero Is xs (λ y i. f y (Contains-behind y x xs i)))

  pub sum_within : (Is : X → ℕ → Type 0) (f : X → ℕ) (xs : List X) (n : ℕ) → ((x : X) (m : ℕ) → Contains xs x → Is x m → m ≤ f x) → IsSum Is xs n → n ≤ sum_by f xs
  sum_within Is f [] n h s = omega (arith, s)
  sum_within Is f (x ∷ xs) n h s =
      let here = h x s.first (Contains-first x xs) s.is in
      let rest = sum_within Is f xs s.rest (λ y m i. h y m (Contains-behind y x xs i)) s.others in
      rw (sum_by-cons f x xs) (omega (arith, here, rest, s.sum))

module _ {X Y : Type 0} (f : X → Y) (Is : Y → ℕ → Type 0) where
  pub sum_of_map : (xs : List X) (n : ℕ) → IsSum Is (map f xs) n → IsSum (λ x m. Is (f x) m) xs n
  sum_of_map [] n s = s
  sum_of_map (x ∷ xs) n s = record { first = s.first; is = s.is; rest = s.rest; others = sum_of_map xs s.rest s.others; sum = s.sum }

  pub sum_to_map : (xs : List X) (n : ℕ) → IsSum (λ x m. Is (f x) m) xs n → IsSum Is (map f xs) n
  sum_to_map [] n s = s
  sum_to_map (x ∷ xs) n s = record { first = s.first; is = s.is; rest = s.rest; others = sum_to_map xs s.rest s.others; sum = s.sum }

-- ---- ascending places

pub ascends_wider : (low high more : ℕ) (ps : List ℕ) → high ≤ more → Ascends low high ps → Ascends low more ps
ascends_wider low high more [] w a = omega (arith, a)
ascends_wider low high more (p ∷ ps) w a = (a.0, ascends_wider (p + 1) high more ps w a.1)

pub ascends_push : (low high : ℕ) (ps : List ℕ) → Ascends low high ps → Ascends low (high + 1) (ps ++ high ∷ [])
ascends_push low high [] a = (a, omega arith)
ascends_push low high (p ∷ ps) a = (a.0, ascends_push (p + 1) high ps a.1)

pub ascends_few : (low high : ℕ) (ps : List ℕ) → Ascends low high ps → low + length ps ≤ high
ascends_few low high [] a = omega (arith, a)
ascends_few low high (p ∷ ps) a =
    let rest = ascends_few (p + 1) high ps a.1 in
    omega (arith, a.0, rest)

pub ascends_at : (low high : ℕ) (ps : List ℕ) (i d : ℕ) → Ascends low high ps → i < length ps → get_or ps i d < high
ascends_at low high [] i d a h = absurd (omega arith)
ascends_at low high (p ∷ ps) zero d a h =
    let rest = ascends_few (p + 1) high ps a.1 in
    omega (arith, rest)
ascends_at low high (p ∷ ps) (suc i) d a h = ascends_at (p + 1) high ps i d a.1 (omega arith)

pub ascends_has : (low high : ℕ) (ps : List ℕ) (p : ℕ) → Ascends low high ps → Contains ps p → low ≤ p
ascends_has low high [] p a h = absurd (Contains-none p h)
ascends_has low high (q ∷ qs) p a h =
    elim (Contains-cons_cases p q qs h) [
      | inl e ↦ omega (arith, e, a.0)
      | inr t ↦ let rest = ascends_has (q + 1) high qs p a.1 t in omega (arith, rest, a.0)
    ]

-- where what is said of a list's member at a place is said at the place, and each other member has nothing, the sum over the
-- places is that over the list
pub gathered : {X : Type 0} (At : ℕ → ℕ → Type 0) (Is : X → ℕ → Type 0) (d : X) (xs : List X) (k : ℕ) (places : List ℕ) (total : ℕ) → Ascends k (k + length xs) places → ((p n : ℕ) → p < length xs → At (k + p) n → Is (get_or xs p d) n) → ((p : ℕ) → p < length xs → Contains places (k + p) ⊎ Is (get_or xs p d) 0) → IsSum At places total → IsSum Is xs total
gathered At Is d [] k [] total a at none s = s
gathered At Is d [] k (p ∷ ps) total a at none s =
    let few = ascends_few (p + 1) (k + 0) ps a.1 in
    absurd (omega (arith, few, a.0))
gathered At Is d (x ∷ xs) k [] total a at none s =
    let z : Is x 0 = elim (none 0 (omega arith)) [ inl c ↦ absurd (Contains-none (k + 0) c) | inr z ↦ z ] in
    record {
      first = 0;
      is = z;
      rest = total;
      others =
          gathered At Is d xs (suc k) [] total (omega arith) (λ p n low h. at (suc p) n (omega arith) (subst (λ q. At q n) (omega arith) h))
          (λ p low.
          elim (none (suc p) (omega arith)) [ inl c ↦ absurd (Contains-none (k + suc p) c) | inr y ↦ inr y ]) s;
      sum = omega arith;
    }
gathered At Is d (x ∷ xs) k (p ∷ ps) total a at none s =
    let high : k + length (x ∷ xs) ≡ suc k + length xs = omega arith in
    let next : (q n : ℕ) → q < length xs → At (suc k + q) n → Is (get_or xs q d) n = λ q n low h. at (suc q) n (omega arith) (subst (λ r. At r n) (omega arith) h) in
    elim (cases_lt k p) [
      | inl apart ↦
          let z : Is x 0 =
          elim (none 0 (omega arith)) [
            | inl c ↦ let low = ascends_has p (k + length (x ∷ xs)) (p ∷ ps) (k + 0) (omega arith, a.1) c in absurd (omega (arith, low, apart))
            | inr y ↦ y
          ] in
          record {
            first = 0;
            is = z;
            rest = total;
            others =
                gathered At Is d xs (suc k) (p ∷ ps) total (omega (arith, apart), subst (λ m. Ascends (p + 1) m ps) high a.1) next
                (λ q low.
                elim (none (suc q) (omega arith)) [ inl c ↦ inl (subst (Contains (p ∷ ps)) (omega arith) c) | inr y ↦ inr y ]) s;
            sum = omega arith;
          }
      | inr past ↦
          let same : p ≡ k + 0 = omega (arith, past, a.0) in
          let from : p + 1 ≡ suc k = omega (arith, past, a.0) in
          record {
            first = s.first;
            is = at 0 s.first (omega arith) (subst (λ q. At q s.first) same s.is);
            rest = s.rest;
            others =
                gathered At Is d xs (suc k) ps s.rest (subst (λ m. Ascends m (suc k + length xs) ps) from (subst (λ m. Ascends (p + 1) m ps) high a.1)) next
                (λ q low.
                elim (none (suc q) (omega arith)) [
                  | inl c ↦
                      elim (Contains-cons_cases (k + suc q) p ps c) [
                        | inl e ↦ absurd (omega (arith, e, same))
                        | inr t ↦ inl (subst (Contains ps) (omega arith) t)
                      ]
                  | inr y ↦ inr y
                ]) s.others;
            sum = s.sum;
          }
    ]
