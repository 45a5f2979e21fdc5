-- Marks for nets of many values: what a set leaves out, a set within it leaves out.
use Rattle.std.proofs.Common.{◌≡◌, ◌∙◌, ℕ, zero, suc, ◌+◌, ◌-◌, ◌*◌, ◌/◌, ◌%◌, ◌^◌, ◌<◌, ◌≤◌, IsTrue, lit<, mod-lt, arith, Bool, true, false, not, ◌&&◌, ◌||◌, inl, inr, refl, sym, ap, subst}
use Rattle.std.specs.Prelude.{◌==◌, nat_lt, bit_and, bit_or, bit_xor, count_ones}
use Rattle.std.specs.Int.{bit_at}
use Rattle.std.proofs.Math.Nat.{pow-suc}
use Rattle.std.proofs.lemmas.Bool.{cases_Bool, false≢true, and_parts, and_from, or_cases, or_left, lt-ltb, false_from_ne_true}
use Rattle.std.proofs.lemmas.Bool.Decides.{nat_tests, Decides-ltb}
use Rattle.std.proofs.lemmas.Nat.{and_le_r, or_comm, div-add-mod', mod-mul-add, pow_pos, shl_whole}
use Rattle.std.proofs.lemmas.Nat.Bits.{bit_at_cat_low, bit_at_cat_high}
use Rattle.mv_base.specs.Set.{has, empty, one, full, meet, join, minus, Within, IsSet}
use Rattle.mv_base.proofs.Sets.{has-empty, has-one, has-full, has-meet, has-join, has-minus, has_above, same_set, count-more, join_empty, join-minus, taken_out, minus_small}
use Rattle.mv_cover.specs.Marks.{folded, remainders, digest, window, wide_marks}
use Rattle.mv_cover.proofs.JoinedSets.{within_first, both_within, join-append, join-nothing}
use Rattle.mv_cover.proofs.Meets.{order}

-- ---- sets within sets

meet-within : (s t c : ℕ) → Within s t → Within (meet s c) (meet t c)
meet-within s t c w v h =
    let p = and_parts (has s v) (has c v) (sym (has-meet s c v) ∙ h) in
    has-meet t c v ∙ and_from (has t v) (has c v) (w v p.0) p.1

minus-within : (s t c : ℕ) → Within s t → Within (minus s c) (minus t c)
minus-within s t c w v h =
    let p = and_parts (has s v) (not (has c v)) (sym (has-minus s c v) ∙ h) in
    has-minus t c v ∙ and_from (has t v) (not (has c v)) (w v p.0) p.1

not-falls : (a b : Bool) → (a ≡ true → b ≡ true) → not b ≡ true → not a ≡ true
not-falls true b up n = rw (up refl) at n
not-falls false b up n = refl

-- of a set within another more is left out
left_out-within : (c s t : ℕ) → Within s t → Within (minus c t) (minus c s)
left_out-within c s t w v h =
    let p = and_parts (has c v) (not (has t v)) (sym (has-minus c t v) ∙ h) in
    has-minus c s v ∙ and_from (has c v) (not (has s v)) p.0 (not-falls (has s v) (has t v) (w v) p.1)

same_within : (s t : ℕ) → Within s t → Within t s → s ≡ t
same_within s t p q =
    same_set s t (λ v. elim (cases_Bool (has s v)) [
      | inl y ↦ y ∙ sym (p v y)
      | inr n ↦ n ∙ sym (false_from_ne_true (has t v) (λ y. false≢true (sym n ∙ q v y)))
    ])

-- ---- values brought down and up

has-lowered : (s k v : ℕ) → has (s / 2 ^ k) v ≡ has s (v + k)
unfolding has
has-lowered s k v =
    let high = s / 2 ^ k in
    let low = s % 2 ^ k in
    let fits : low < 2 ^ k = mod-lt s (pow_pos k) in
    let back : v + k - k ≡ v = omega arith in
    let bits : bit_at s (v + k) ≡ bit_at high v =
    ap (λ n. bit_at n (v + k)) (sym (div-add-mod' s (2 ^ k))) ∙ (bit_at_cat_high high k low (v + k) fits (omega arith) ∙ ap (bit_at high) back) in
    ap (λ b. b == 1) (sym bits)

raised-low : (s k v : ℕ) → v < k → has (s * 2 ^ k) v ≡ has 0 v
unfolding has
raised-low s k v low =
    let more : s * 2 ^ k ≡ s * 2 ^ k + 0 = omega arith in
    ap (λ b. b == 1) (ap (λ n. bit_at n v) more ∙ bit_at_cat_low s k 0 v low)

raised-high : (s k v : ℕ) → k ≤ v → has (s * 2 ^ k) v ≡ has s (v - k)
unfolding has
raised-high s k v above =
    let more : s * 2 ^ k ≡ s * 2 ^ k + 0 = omega arith in
    ap (λ b. b == 1) (ap (λ n. bit_at n v) more ∙ bit_at_cat_high s k 0 v (pow_pos k) above)

raised-within : (s t k : ℕ) → Within s t → Within (s * 2 ^ k) (t * 2 ^ k)
raised-within s t k w v h =
    elim (order v k) [
      | inl y ↦ raised-low t k v y.1 ∙ (sym (raised-low s k v y.1) ∙ h)
      | inr n ↦
          let above : k ≤ v = n.1 in
          raised-high t k v above ∙ w (v - k) (sym (raised-high s k v above) ∙ h)
    ]

-- ---- folded sets

has-folded : (k s v : ℕ) → has (folded k s) v ≡ ((has s v && nat_lt v k) || has s (v + k))
unfolding folded
has-folded k s v =
    has-join (meet s (full k)) (s / 2 ^ k) v
    ∙ (λ i. (has-meet s (full k) v ∙ ap (λ b. has s v && b) (has-full k v)) i || has-lowered s k v i)

folded-within : (k s t : ℕ) → Within s t → Within (folded k s) (folded k t)
unfolding folded
folded-within k s t w =
    both_within (meet s (full k)) (s / 2 ^ k) (meet t (full k)) (t / 2 ^ k) (meet-within s t (full k) w)
    (λ v h. has-lowered t k v ∙ w (v + k) (sym (has-lowered s k v) ∙ h))

remainders-within : (k s t : ℕ) → Within s t → Within (remainders k s) (remainders k t)
unfolding remainders
remainders-within zero s t w = w
remainders-within (suc k) s t w = remainders-within k (folded (8 * 2 ^ k) s) (folded (8 * 2 ^ k) t) (folded-within (8 * 2 ^ k) s t w)

digest-within : (s t : ℕ) → Within s t → Within (digest s) (digest t)
unfolding digest
digest-within s t w =
    both_within (remainders 7 s) (minus (meet s (full 16)) (full 8)) (remainders 7 t) (minus (meet t (full 16)) (full 8)) (remainders-within 7 s t w)
    (minus-within (meet s (full 16)) (meet t (full 16)) (full 8) (meet-within s t (full 16) w))

-- what a set leaves out, a set within it leaves out
pub wide_marks-within : (s t n : ℕ) → Within s t → Within (wide_marks t n) (wide_marks s n)
unfolding wide_marks
wide_marks-within s t n w =
    raised-within (minus (full 16) (digest t)) (minus (full 16) (digest s)) (window n) (left_out-within (full 16) (digest s) (digest t) (digest-within s t w))

-- ---- sets of small values

folded-small : (k s : ℕ) → Within s (full k) → folded k s ≡ s
folded-small k s w =
    same_set (folded k s) s
    (λ v.
    let none : has s (v + k) ≡ false =
    false_from_ne_true (has s (v + k)) (λ t.
    let low : v + k < k = (Decides-ltb (v + k) k).0 (sym (has-full k (v + k)) ∙ w (v + k) t) in
    absurd (omega (arith, low))) in
    elim (cases_Bool (has s v)) [
      | inl y ↦ has-folded k s v ∙ (or_left (has s v && nat_lt v k) (has s (v + k)) (and_from (has s v) (nat_lt v k) y (sym (has-full k v) ∙ w v y)) ∙ sym y)
      | inr n ↦ has-folded k s v ∙ ((λ i. (n i && nat_lt v k) || none i) ∙ sym n)
    ])

remainders-small : (k s : ℕ) → Within s (full (8 * 2 ^ k)) → remainders (suc k) s ≡ remainders k s
unfolding remainders
remainders-small k s w = ap (remainders k) (folded-small (8 * 2 ^ k) s w)

small-within : (s k m : ℕ) → s < 2 ^ k → k ≤ m → Within s (full m)
small-within s k m small more v h =
    elim (order v k) [
      | inl y ↦ let low : v < k = y.1 in has-full m v ∙ lt-ltb v m (omega (arith, low, more))
      | inr n ↦ absurd (false≢true (sym (has_above k s v small n.1) ∙ h))
    ]

-- three folds do for values below 64
pub remainders-few : (s : ℕ) → s < 2 ^ 64 → remainders 3 s ≡ remainders 7 s
remainders-few s small =
    sym (remainders-small 6 s (small-within s 64 512 small (omega arith)) ∙ (remainders-small 5 s (small-within s 64 256 small (omega arith))
    ∙ (remainders-small 4 s (small-within s 64 128 small (omega arith)) ∙ remainders-small 3 s (small-within s 64 64 small (omega arith)))))

-- a few low values fit 64 bits
pub low-few : (s k m : ℕ) → k ≡ full 16 → m ≡ meet s k → 2 ^ 64 ≤ m → ⊥
unfolding full meet
low-few s k m is met many = omega (arith, and_le_r s k, is, met, many)

-- marks at the place of a net fit 64 bits
pub wide_marks-placed : (set n had place : ℕ) → had ≡ digest set → place ≡ window n → place ≤ 48 → bit_xor 65535 (bit_and 65535 had) * 2 ^ place % 2 ^ 64 ≡ wide_marks set n
unfolding wide_marks minus full
wide_marks-placed set n had place is at low =
    shl_whole (bit_xor 65535 (bit_and 65535 had)) 16 place 64 (minus_small 16 65535 had (lit< tt)) (omega arith)
    ∙ λ i. bit_xor 65535 (bit_and 65535 (is i)) * 2 ^ at i

-- ---- values taken one by one

mod_at : (v k q r : ℕ) → v ≡ q * k + r → r < k → v % k ≡ r
mod_at v k q r e low = ap (λ n. n % k) e ∙ mod-mul-add q k r low

one_low : (u v k : ℕ) → v < k → (((u == v) && nat_lt u k) || ((u + k) == v)) ≡ (u == v)
one_low u v k low = grind (arith, nat_tests)

one_high : (u v k q : ℕ) → v ≡ q + k → (((u == v) && nat_lt u k) || ((u + k) == v)) ≡ (u == q)
one_high u v k q e = grind (arith, nat_tests)

folded-one : (k v : ℕ) → v < k + k → folded k (one v) ≡ one (v % k)
folded-one k v low =
    same_set (folded k (one v)) (one (v % k))
    (λ u. has-folded k (one v) u ∙ ((λ i. (has-one v u i && nat_lt u k) || has-one v (u + k) i)
    ∙ (elim (order v k) [
      | inl y ↦
          let below : v < k = y.1 in
          let same : v % k ≡ v = mod_at v k 0 v (omega arith) below in
          one_low u v k below ∙ ap (λ n. u == n) (sym same)
      | inr n ↦
          let above : k ≤ v = n.1 in
          let same : v % k ≡ v - k = mod_at v k 1 (v - k) (omega (arith, above)) (omega (arith, above, low)) in
          one_high u v k (v - k) (omega (arith, above)) ∙ ap (λ n. u == n) (sym same)
    ] ∙ sym (has-one (v % k) u))))

again_mod : (v k : ℕ) → v % (8 * 2 ^ k) % 8 ≡ v % 8
again_mod v k =
    let m = 8 * 2 ^ k in
    let some : 0 < m = omega (arith, pow_pos k) in
    let r = v % m in
    let whole : v ≡ v / m * m + r = sym (div-add-mod' v m) in
    let part : r ≡ r / 8 * 8 + r % 8 = sym (div-add-mod' r 8) in
    let spread : v / m * m ≡ v / m * 2 ^ k * 8 = grind arith in
    let split : v ≡ (v / m * 2 ^ k + r / 8) * 8 + r % 8 = omega (arith, whole, part, spread) in
    sym (mod_at v 8 (v / m * 2 ^ k + r / 8) (r % 8) split (mod-lt r (lit< tt)))

remainders-one : (k v : ℕ) → v < 8 * 2 ^ k → remainders k (one v) ≡ one (v % 8)
unfolding remainders
remainders-one zero v low = ap one (sym (mod_at v 8 0 v (omega arith) low))
remainders-one (suc k) v low =
    let m = 8 * 2 ^ k in
    let double : 8 * 2 ^ suc k ≡ m + m = grind (arith, pow-suc) in
    let some : 0 < m = omega (arith, pow_pos k) in
    ap (remainders k) (folded-one m v (omega (arith, low, double))) ∙ (remainders-one k (v % m) (mod-lt v some) ∙ ap one (again_mod v k))

shuffle : (a b m c d : Bool) → (((a || b) && m) || (c || d)) ≡ (((a && m) || c) || ((b && m) || d))
shuffle true b true c d = refl
shuffle true true false true d = refl
shuffle true true false false d = refl
shuffle true false false true d = refl
shuffle true false false false d = refl
shuffle false true true true d = refl
shuffle false true true false d = refl
shuffle false true false c d = refl
shuffle false false m c d = refl

folded-join : (k a b : ℕ) → folded k (join a b) ≡ join (folded k a) (folded k b)
folded-join k a b =
    same_set (folded k (join a b)) (join (folded k a) (folded k b))
    (λ v.
    has-folded k (join a b) v
    ∙ ((λ i. (has-join a b v i && nat_lt v k) || has-join a b (v + k) i)
    ∙ (shuffle (has a v) (has b v) (nat_lt v k) (has a (v + k)) (has b (v + k))
    ∙ sym (has-join (folded k a) (folded k b) v ∙ λ i. has-folded k a v i || has-folded k b v i))))

remainders-join : (k a b : ℕ) → remainders k (join a b) ≡ join (remainders k a) (remainders k b)
unfolding remainders
remainders-join zero a b = refl
remainders-join (suc k) a b = ap (remainders k) (folded-join (8 * 2 ^ k) a b) ∙ remainders-join k (folded (8 * 2 ^ k) a) (folded (8 * 2 ^ k) b)

folded-below : (k s : ℕ) → Within s (full (k + k)) → Within (folded k s) (full k)
folded-below k s w v h =
    elim (or_cases (has s v && nat_lt v k) (has s (v + k)) (sym (has-folded k s v) ∙ h)) [
      | inl t ↦ has-full k v ∙ (and_parts (has s v) (nat_lt v k) t).1
      | inr t ↦
          let low : v + k < k + k = (Decides-ltb (v + k) (k + k)).0 (sym (has-full (k + k) (v + k)) ∙ w (v + k) t) in
          has-full k v ∙ lt-ltb v k (omega (arith, low))
    ]

remainders-below : (k s : ℕ) → Within s (full (8 * 2 ^ k)) → Within (remainders k s) (full 8)
unfolding remainders
remainders-below zero s w = w
remainders-below (suc k) s w =
    let m = 8 * 2 ^ k in
    let double : 8 * 2 ^ suc k ≡ m + m = grind (arith, pow-suc) in
    remainders-below k (folded m s) (folded-below m s (subst (λ n. Within s (full n)) double w))

remainders-none : (k : ℕ) → remainders k empty ≡ empty
unfolding remainders
remainders-none zero = refl
remainders-none (suc k) =
    ap (remainders k) (folded-small (8 * 2 ^ k) empty (λ v h. absurd (false≢true (sym (has-empty v) ∙ h)))) ∙ remainders-none k

join-turned : (a b : ℕ) → join a b ≡ join b a
unfolding join
join-turned a b = or_comm a b

joined_or : (a b c : ℕ) → join (bit_or a b) c ≡ join a (join b c)
unfolding join
joined_or a b c = join-append a b c

empty_is : empty ≡ 0
unfolding empty
empty_is = refl

each_is : (found : ℕ) → found ≡ 255 → found ≡ full 8
unfolding full
each_is found e = e

-- the remainders found so far, and those of the values that are left
pub record Finds (set found rest : ℕ) : Type 0 where
  pub all : join found (remainders 7 rest) ≡ remainders 7 set

pub finds_none : (set : ℕ) → Finds set 0 set
finds_none set = record { all = ap (λ e. join e (remainders 7 set)) (sym empty_is) ∙ join_empty (remainders 7 set) }

pub finds_more : (set found rest v b less : ℕ) → IsSet rest → IsTrue (has rest v) → b ≡ one (v % 8) → less ≡ minus rest (one v) → Finds set found rest → Finds set (bit_or found b) less
finds_more set found rest v b less is there bit without before =
    let single : remainders 7 (one v) ≡ b = remainders-one 7 v (is.below v there) ∙ sym bit in
    let split : remainders 7 rest ≡ join b (remainders 7 less) =
    ap (remainders 7) (sym (join-minus rest v there) ∙ ap (λ s. join s (one v)) (sym without)) ∙ (remainders-join 7 less (one v) ∙ (ap (join (remainders 7 less)) single ∙ join-turned (remainders 7 less) b)) in
    record { all = joined_or found b (remainders 7 less) ∙ (ap (join found) (sym split) ∙ before.all) }

pub finds_all : (set found rest : ℕ) → rest ≡ empty → Finds set found rest → found ≡ remainders 7 set
finds_all set found rest none before =
    sym (join-nothing found) ∙ (ap (join found) (sym (ap (remainders 7) none ∙ remainders-none 7)) ∙ before.all)

-- no remainder is missing
pub finds_each : (set found rest : ℕ) → IsSet set → found ≡ 255 → Finds set found rest → found ≡ remainders 7 set
finds_each set found rest is each before =
    let inside : Within found (remainders 7 set) = λ v h. ap (λ s. has s v) (sym before.all) ∙ within_first found (remainders 7 rest) v h in
    let below : Within (remainders 7 set) (full 8) = remainders-below 7 set (λ v h. has-full 1024 v ∙ lt-ltb v 1024 (is.below v h)) in
    same_within found (remainders 7 set) inside (λ v h. ap (λ s. has s v) (each_is found each) ∙ below v h)

pub one_fewer : (s v less : ℕ) → IsTrue (has s v) → less ≡ minus s (one v) → count_ones less < count_ones s
one_fewer s v less there without =
    let counted : count_ones s ≡ count_ones (minus s (one v)) + 1 = ap count_ones (sym (join-minus s v there)) ∙ count-more (minus s (one v)) v (taken_out s v) in
    omega (arith, counted, ap count_ones without)
