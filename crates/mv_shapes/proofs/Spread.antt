-- Places of ascending nets: what stands later is greater, so that places compare as their nets do.
use Rattle.std.proofs.Common.{◌≡◌, ℕ, zero, suc, ◌+◌, ◌-◌, ◌<◌, ◌≤◌, true, nat_eq, nat_lt, cond, List, [], ◌∷◌, length, get_or, sym, refl, ◌∙◌, ap, arith, inl, inr, eq-eqb, ne_eqb}
use Rattle.std.proofs.lemmas.Bool.{cases_order, and_parts, ltb-true, lt-ltb, le-ltb}
use Rattle.mv_base.specs.declared.number.NetId.{NetId}
use Rattle.mv_graph.specs.Nets.{ids_ascend}
use Rattle.mv_shapes.specs.Shape.{spread}

-- numbers that ascend, all of which are `base` or more
abbrev pub Rises : ℕ → List NetId → Type 0
Rises base [] = Unit {0}
Rises base (n ∷ ns) = (base ≤ n.0) × Rises (n.0 + 1) ns

rises_behind : (n : NetId) (ns : List NetId) → ids_ascend (n ∷ ns) ≡ true → Rises (n.0 + 1) ns
rises_behind n [] h = tt
rises_behind n (m ∷ ns) h =
    let p = and_parts (nat_lt n.0 m.0) (ids_ascend (m ∷ ns)) h in
    (let l = ltb-true n.0 m.0 p.0 in omega (arith, l), rises_behind m ns p.1)

pub rises : (ns : List NetId) → ids_ascend ns ≡ true → Rises 0 ns
rises [] h = tt
rises (n ∷ ns) h = (omega arith, rises_behind n ns h)

at_least : (base : ℕ) (ns : List NetId) (k : ℕ) → Rises base ns → base ≤ spread base ns k
at_least base [] k r = omega arith
at_least base (n ∷ ns) zero r = r.0
at_least base (n ∷ ns) (suc k) r =
    let l = at_least (n.0 + 1) ns k r.1 in
    let f = r.0 in
    omega (arith, l, f)

grows : (base : ℕ) (ns : List NetId) (j k : ℕ) → Rises base ns → j < k → spread base ns j < spread base ns k
grows base [] j k r l = omega (arith, l)
grows base (n ∷ ns) zero zero r l = absurd (omega (arith, l))
grows base (n ∷ ns) zero (suc k) r l = let m = at_least (n.0 + 1) ns k r.1 in omega (arith, m)
grows base (n ∷ ns) (suc j) zero r l = absurd (omega (arith, l))
grows base (n ∷ ns) (suc j) (suc k) r l = grows (n.0 + 1) ns j k r.1 (omega (arith, l))

pub lt-spread : (ns : List NetId) (j k : ℕ) → Rises 0 ns → nat_lt (spread 0 ns j) (spread 0 ns k) ≡ nat_lt j k
lt-spread ns j k r =
    elim (cases_order j k) [
      | inl e ↦
          let same : spread 0 ns j ≡ spread 0 ns k = ap (spread 0 ns) e in
          le-ltb (spread 0 ns j) (spread 0 ns k) (omega (arith, same)) ∙ sym (le-ltb j k (omega (arith, e)))
      | inr (inl l) ↦ lt-ltb (spread 0 ns j) (spread 0 ns k) (grows 0 ns j k r l) ∙ sym (lt-ltb j k l)
      | inr (inr g) ↦
          let m = grows 0 ns k j r g in
          le-ltb (spread 0 ns j) (spread 0 ns k) (omega (arith, m)) ∙ sym (le-ltb j k (omega (arith, g)))
    ]

pub eq-spread : (ns : List NetId) (j k : ℕ) → Rises 0 ns → nat_eq (spread 0 ns j) (spread 0 ns k) ≡ nat_eq j k
eq-spread ns j k r =
    elim (cases_order j k) [
      | inl e ↦ eq-eqb _ _ (ap (spread 0 ns) e) ∙ sym (eq-eqb _ _ e)
      | inr (inl l) ↦
          let m = grows 0 ns j k r l in
          ne_eqb _ _ (λ e. absurd (omega (arith, m, e))) ∙ sym (ne_eqb _ _ (λ e. absurd (omega (arith, l, e))))
      | inr (inr g) ↦
          let m = grows 0 ns k j r g in
          ne_eqb _ _ (λ e. absurd (omega (arith, m, e))) ∙ sym (ne_eqb _ _ (λ e. absurd (omega (arith, g, e))))
    ]

-- no place is greater than the number that stands there
place_low : (base : ℕ) (ns : List NetId) (k : ℕ) → Rises base ns → base + k ≤ spread base ns k
place_low base [] k r = omega arith
place_low base (n ∷ ns) zero r = let f = r.0 in omega (arith, f)
place_low base (n ∷ ns) (suc k) r =
    let l = place_low (n.0 + 1) ns k r.1 in
    let f = r.0 in
    omega (arith, l, f)

pub low-spread : (ns : List NetId) (k : ℕ) → Rises 0 ns → k ≤ spread 0 ns k
low-spread ns k r = let l = place_low 0 ns k r in omega (arith, l)

-- ---- back from a net to its place

pub place_back : ℕ → List NetId → ℕ → ℕ
place_back base [] n = n - base
place_back base (m ∷ ns) n = cond (nat_lt m.0 n) (suc (place_back (m.0 + 1) ns n)) 0

back_from : (base : ℕ) (ns : List NetId) (k : ℕ) → Rises base ns → place_back base ns (spread base ns k) ≡ k
unfolding place_back
back_from base [] k r = omega arith
back_from base (n ∷ ns) zero r = rw (le-ltb n.0 n.0 (omega arith)) refl
back_from base (n ∷ ns) (suc k) r =
    let l = at_least (n.0 + 1) ns k r.1 in
    rw (lt-ltb n.0 (spread (n.0 + 1) ns k) (omega (arith, l))) (ap suc (back_from (n.0 + 1) ns k r.1))

pub back-spread : (ns : List NetId) (k : ℕ) → Rises 0 ns → place_back 0 ns (spread 0 ns k) ≡ k
back-spread ns k r = back_from 0 ns k r

-- ---- the net that stands at a place

net_from : (base : ℕ) (ns : List NetId) (k : ℕ) (d : NetId) → k < length ns → (get_or ns k d).0 ≡ spread base ns k
net_from base [] k d l = absurd (omega (arith, l))
net_from base (n ∷ ns) zero d l = refl
net_from base (n ∷ ns) (suc k) d l = net_from (n.0 + 1) ns k d (omega (arith, l))

pub net-spread : (ns : List NetId) (k : ℕ) (d : NetId) → k < length ns → get_or ns k d ≡ record { 0 = spread 0 ns k }
net-spread ns k d l = λ i. record { 0 = net_from 0 ns k d l i }
