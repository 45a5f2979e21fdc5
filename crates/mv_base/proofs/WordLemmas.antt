-- Numbers in words of 128 bits: what is done word by word is done to the number.
use Rattle.std.proofs.Common.{◌≡◌, ◌≢◌, ℕ, zero, suc, ◌+◌, ◌-◌, ◌*◌, ◌/◌, ◌%◌, ◌^◌, ◌<◌, ◌≤◌, List, [], ◌∷◌, length, get_or, refl, sym, ◌∙◌, ap, arith, lit<, mod-lt, Bool, true, ◌&&◌, ⊎_elim}
use Rattle.std.specs.Prelude.{bit_and, bit_or, bit_xor, count_ones, ◌==◌}
use Rattle.std.specs.Int.{bit_at}
use Rattle.std.specs.Int.Count.{ones-ones}
use Rattle.std.proofs.Common.{Ordering, Equal}
use Rattle.std.specs.Ordering.{nat_cmp, ordering_then}
use Rattle.std.proofs.Math.Nat.{mod-one, div-one, suc_inj, mod-eq_of_lt, pow-le-pow_right}
use Rattle.std.proofs.lemmas.Bool.{cases_eq, cases_lt}
use Rattle.std.proofs.lemmas.Bool.Decides.{nat_tests}
use Rattle.std.proofs.lemmas.Nat.{shr-shr, mod-pow-add, and_block, or_block, xor_block, ones_cat, pow_pos, and_le_l, or_lt, xor_lt, div-add-mod', shr_split, pow-add, pow_below}
use Rattle.std.proofs.lemmas.Nat.Bits.{bit_at_cat_low, bit_at-zero, same_from_bits_below, bit_at-pow_same, bit_at-pow_other, bit_at_ones, bit_at_ones_above}
use Rattle.mv_base.specs.Set.{has}
use Rattle.mv_base.specs.Words.{number, AreWords, word_of}
use Rattle.mv_base.specs.SetInside.{word_of-number}
use Rattle.mv_base.proofs.Sets.{IsLeast, IsLeast-from_bits}

-- ---- the words of a number

pub word_of-shift : (k n : ℕ) → word_of n k ≡ n / 2 ^ (128 * k) % 2 ^ 128
unfolding word_of
word_of-shift zero n = ap (λ m. m % 2 ^ 128) (sym (div-one n))
word_of-shift (suc k) n =
    let place : 128 * suc k ≡ 128 + 128 * k = omega arith in
    rw (place, ← shr-shr n 128 (128 * k)) (word_of-shift k (n / 2 ^ 128))

-- the words from a place on
abbrev pub words_from : ℕ → ℕ → ℕ → List ℕ
words_from n at zero = []
words_from n at (suc k) = word_of n at ∷ words_from n (suc at) k

pub number-words_from : (k n at : ℕ) → number (words_from n at k) ≡ n / 2 ^ (128 * at) % 2 ^ (128 * k)
number-words_from zero n at = sym (mod-one (n / 2 ^ (128 * at)))
number-words_from (suc k) n at =
    let m = n / 2 ^ (128 * at) in
    let place : 128 * suc at ≡ 128 * at + 128 = omega arith in
    let size : 128 * suc k ≡ 128 * k + 128 = omega arith in
    let next : n / 2 ^ (128 * suc at) ≡ m / 2 ^ 128 = rw place (sym (shr-shr n (128 * at) 128)) in
    rw (number-words_from k n (suc at), word_of-shift at n, next, size) (sym (mod-pow-add m (128 * k) 128))

-- ---- what is done word by word

abbrev pub zip_words : (ℕ → ℕ → ℕ) → List ℕ → List ℕ → List ℕ
zip_words op [] ys = []
zip_words op (x ∷ xs) [] = []
zip_words op (x ∷ xs) (y ∷ ys) = op x y ∷ zip_words op xs ys

-- an operation on numbers that goes word by word
pub record GoesByWords (op : ℕ → ℕ → ℕ) : Type 0 where
  pub none : op 0 0 ≡ 0
  pub block : (a b r s : ℕ) → r < 2 ^ 128 → s < 2 ^ 128 → op (a * 2 ^ 128 + r) (b * 2 ^ 128 + s) ≡ op a b * 2 ^ 128 + op r s
  pub word : (r s : ℕ) → r < 2 ^ 128 → s < 2 ^ 128 → op r s < 2 ^ 128

pub number-zip_words : (op : ℕ → ℕ → ℕ) → GoesByWords op → (xs ys : List ℕ) → length xs ≡ length ys → AreWords xs → AreWords ys → number (zip_words op xs ys) ≡ op (number xs) (number ys)
number-zip_words op g [] [] e p q = sym g.none
number-zip_words op g [] (y ∷ ys) e p q = absurd (omega (arith, e))
number-zip_words op g (x ∷ xs) [] e p q = absurd (omega (arith, e))
number-zip_words op g (x ∷ xs) (y ∷ ys) e p q =
    rw (number-zip_words op g xs ys (suc_inj e) p.1 q.1) (sym (g.block (number xs) (number ys) x y p.0 q.0))

pub AreWords-zip_words : (op : ℕ → ℕ → ℕ) → GoesByWords op → (xs ys : List ℕ) → AreWords xs → AreWords ys → AreWords (zip_words op xs ys)
AreWords-zip_words op g [] ys p q = tt
AreWords-zip_words op g (x ∷ xs) [] p q = tt
AreWords-zip_words op g (x ∷ xs) (y ∷ ys) p q = (g.word x y p.0 q.0, AreWords-zip_words op g xs ys p.1 q.1)

pub meet_by_words : GoesByWords bit_and
meet_by_words = record {
  none = refl;
  block = and_block 128;
  word = λ r s p q. omega (arith, and_le_l r s);
}

pub join_by_words : GoesByWords bit_or
join_by_words = record {
  none = refl;
  block = or_block 128;
  word = or_lt 128;
}

abbrev pub leave : ℕ → ℕ → ℕ
leave a b = bit_xor a (bit_and a b)

pub minus_by_words : GoesByWords leave
minus_by_words = record {
  none = refl;
  block = λ a b r s p q. rw (and_block 128 a b r s p q) (xor_block 128 a (bit_and a b) r (bit_and r s) p (omega (arith, and_le_l r s)));
  word = λ r s p q. xor_lt 128 r (bit_and r s) p (omega (arith, and_le_l r s));
}

-- ---- comparing

abbrev pub cmp_words : List ℕ → List ℕ → Ordering
cmp_words [] ys = Equal
cmp_words (x ∷ xs) [] = Equal
cmp_words (x ∷ xs) (y ∷ ys) = ordering_then (cmp_words xs ys) (nat_cmp x y)

cmp_block : (a b r s : ℕ) → r < 2 ^ 128 → s < 2 ^ 128 → ordering_then (nat_cmp a b) (nat_cmp r s) ≡ nat_cmp (a * 2 ^ 128 + r) (b * 2 ^ 128 + s)
cmp_block a b r s p q = grind (arith, nat_tests)

pub cmp-words : (xs ys : List ℕ) → length xs ≡ length ys → AreWords xs → AreWords ys → cmp_words xs ys ≡ nat_cmp (number xs) (number ys)
cmp-words [] [] e p q = refl
cmp-words [] (y ∷ ys) e p q = absurd (omega (arith, e))
cmp-words (x ∷ xs) [] e p q = absurd (omega (arith, e))
cmp-words (x ∷ xs) (y ∷ ys) e p q = rw (cmp-words xs ys (suc_inj e) p.1 q.1) (cmp_block (number xs) (number ys) x y p.0 q.0)

abbrev pub eq_words : List ℕ → List ℕ → Bool
eq_words [] ys = true
eq_words (x ∷ xs) [] = true
eq_words (x ∷ xs) (y ∷ ys) = eq_words xs ys && (x == y)

eq_block : (a b r s : ℕ) → r < 2 ^ 128 → s < 2 ^ 128 → ((a == b) && (r == s)) ≡ (a * 2 ^ 128 + r == b * 2 ^ 128 + s)
eq_block a b r s p q = grind (arith, nat_tests)

pub eq-words : (xs ys : List ℕ) → length xs ≡ length ys → AreWords xs → AreWords ys → eq_words xs ys ≡ (number xs == number ys)
eq-words [] [] e p q = refl
eq-words [] (y ∷ ys) e p q = absurd (omega (arith, e))
eq-words (x ∷ xs) [] e p q = absurd (omega (arith, e))
eq-words (x ∷ xs) (y ∷ ys) e p q = rw (eq-words xs ys (suc_inj e) p.1 q.1) (eq_block (number xs) (number ys) x y p.0 q.0)

-- ---- counting

abbrev pub ones_words : List ℕ → ℕ
ones_words [] = 0
ones_words (w ∷ ws) = ones_words ws + count_ones w

pub ones-words : (ws : List ℕ) → AreWords ws → ones_words ws ≡ count_ones (number ws)
ones-words [] h = sym (ones-ones 0)
ones-words (w ∷ ws) h = rw (ones-words ws h.1) (sym (ones_cat 128 (number ws) w h.0))

-- ---- members

-- a bit of a number is a bit of one of its words
pub bit_at_word : (s at t : ℕ) → t < 128 → bit_at s (128 * at + t) ≡ bit_at (word_of s at) t
bit_at_word s at t small =
    let m = s / 2 ^ (128 * at) in
    let low : bit_at (m / 2 ^ 128 * 2 ^ 128 + m % 2 ^ 128) t ≡ bit_at (m % 2 ^ 128) t = bit_at_cat_low (m / 2 ^ 128) 128 (m % 2 ^ 128) t small in
    let here : bit_at s (128 * at + t) ≡ bit_at m t = ap (λ x. x % 2) (sym (shr-shr s (128 * at) t)) in
    here ∙ (ap (λ x. bit_at x t) (sym (shr_split m 128)) ∙ (low ∙ ap (λ x. bit_at x t) (sym (word_of-shift at s))))

pub has_in_word : (s v : ℕ) → has s v ≡ (bit_at (word_of s (v / 128)) (v % 128) == 1)
unfolding has
has_in_word s v =
    let split : v ≡ 128 * (v / 128) + v % 128 = omega (arith, div-add-mod' v 128) in
    let small : v % 128 < 128 = mod-lt v (lit< tt) in
    ap (λ b. b == 1) (ap (bit_at s) split ∙ bit_at_word s (v / 128) (v % 128) small)

-- the lowest bit of the first word that isn't 0 is the least member
pub IsLeast-from_words : (s at t : ℕ) → ((k : ℕ) → k < at → word_of s k ≡ 0) → t < 128 → bit_at (word_of s at) t ≡ 1 → ((i : ℕ) → i < t → bit_at (word_of s at) i ≡ 0) → IsLeast s (128 * at + t)
IsLeast-from_words s at t before small here below =
    IsLeast-from_bits s (128 * at + t) (bit_at_word s at t small ∙ here)
    (λ i h.
    let j = i / 128 in
    let k = i % 128 in
    let split : i ≡ 128 * j + k = omega (arith, div-add-mod' i 128) in
    let within : k < 128 = mod-lt i (lit< tt) in
    let there : bit_at s i ≡ bit_at (word_of s j) k = ap (bit_at s) split ∙ bit_at_word s j k within in
    ⊎_elim
    (λ (same : j ≡ at). there ∙ rw same (below k (omega (arith, split, same, h))))
    (λ (other : j ≡ at → ⊥). there ∙ rw (before j (omega (arith, split, other, h, small))) (bit_at-zero k))
    (cases_eq j at))

no_words : (k s at : ℕ) → ((i : ℕ) → i < at + k → word_of s i ≡ 0) → number (words_from s at k) ≡ 0
no_words zero s at none = refl
no_words (suc k) s at none = rw (no_words k s (suc at) (λ i h. none i (omega (arith, h))), none at (omega arith)) refl

-- a number whose words are all 0
pub zero_from_words : (k s : ℕ) → s < 2 ^ (128 * k) → ((i : ℕ) → i < k → word_of s i ≡ 0) → s ≡ 0
zero_from_words k s small none =
    let whole : s % 2 ^ (128 * k) ≡ s = mod-eq_of_lt small in
    let one_part : s / 2 ^ (128 * 0) ≡ s = div-one s in
    sym whole ∙ (ap (λ n. n % 2 ^ (128 * k)) (sym one_part) ∙ (sym (number-words_from k s 0) ∙ no_words k s 0 (λ i h. none i (omega (arith, h)))))

-- the words of a set make a set
pub number-lt : (ws : List ℕ) → AreWords ws → number ws < 2 ^ (128 * length ws)
number-lt [] h = lit< tt
number-lt (w ∷ ws) h =
    let rest = number-lt ws h.1 in
    let size : 128 * length (w ∷ ws) ≡ 128 * length ws + 128 = omega arith in
    let power : 2 ^ (128 * length (w ∷ ws)) ≡ 2 ^ (128 * length ws) * 2 ^ 128 = rw size (pow-add 2 (128 * length ws) 128) in
    omega (arith, rest, power, h.0)

-- and a number that fits has just its words
pub number_of_words : (k n : ℕ) → n < 2 ^ (128 * k) → number (words_from n 0 k) ≡ n
number_of_words k n small = number-words_from k n 0 ∙ (ap (λ m. m % 2 ^ (128 * k)) (div-one n) ∙ mod-eq_of_lt small)

pub AreWords-words_from : (k n at : ℕ) → AreWords (words_from n at k)
AreWords-words_from zero n at = tt
AreWords-words_from (suc k) n at = (rw (word_of-shift at n) (mod-lt (n / 2 ^ (128 * at)) (pow_pos 128)), AreWords-words_from k n (suc at))

-- a word is what has its bits
word_from_bits : (n at m : ℕ) → m < 2 ^ 128 → ((t : ℕ) → t < 128 → bit_at n (128 * at + t) ≡ bit_at m t) → word_of n at ≡ m
word_from_bits n at m small h =
    let fits : word_of n at < 2 ^ 128 = (AreWords-words_from 1 n at).0 in
    same_from_bits_below 128 (word_of n at) m fits small (λ t below. sym (bit_at_word n at t below) ∙ h t below)

-- the words of a power of 2
pub word_of-pow : (v at : ℕ) → v / 128 ≡ at → word_of (2 ^ v) at ≡ 2 ^ (v % 128)
word_of-pow v at e =
    let r = v % 128 in
    let within : r < 128 = mod-lt v (lit< tt) in
    let split : v ≡ 128 * at + r = omega (arith, div-add-mod' v 128, e) in
    word_from_bits (2 ^ v) at (2 ^ r) (pow_below r 128 within)
    (λ t below.
    ⊎_elim
    (λ (same : t ≡ r). rw (same, ← split) (bit_at-pow_same v ∙ sym (bit_at-pow_same r)))
    (λ (other : t ≡ r → ⊥). bit_at-pow_other v (128 * at + t) (λ q. other (omega (arith, q, split))) ∙ sym (bit_at-pow_other r t other))
    (cases_eq t r))

pub word_of-pow_other : (v at : ℕ) → v / 128 ≢ at → word_of (2 ^ v) at ≡ 0
word_of-pow_other v at e =
    let split = div-add-mod' v 128 in
    let within : v % 128 < 128 = mod-lt v (lit< tt) in
    word_from_bits (2 ^ v) at 0 (pow_pos 128)
    (λ t below. bit_at-pow_other v (128 * at + t) (λ q. e (omega (arith, q, split, within, below))) ∙ sym (bit_at-zero t))

-- the words of 2 ^ k - 1
pub word_of-ones_above : (k at : ℕ) → k ≤ 128 * at → word_of (2 ^ k - 1) at ≡ 0
word_of-ones_above k at h =
    word_from_bits (2 ^ k - 1) at 0 (pow_pos 128)
    (λ t below. bit_at_ones_above k (128 * at + t) (omega (arith, h)) ∙ sym (bit_at-zero t))

pub word_of-ones : (k at : ℕ) → 128 * at ≤ k → k ≤ 128 * at + 128 → word_of (2 ^ k - 1) at ≡ 2 ^ (k - 128 * at) - 1
word_of-ones k at h i =
    let j = k - 128 * at in
    let short : j ≤ 128 = omega (arith, i) in
    let small : 2 ^ j ≤ 2 ^ 128 = pow-le-pow_right (lit< tt) short in
    let some = pow_pos j in
    word_from_bits (2 ^ k - 1) at (2 ^ j - 1) (omega (arith, small, some))
    (λ t below.
    ⊎_elim
    (λ (inside : t < j). bit_at_ones k (128 * at + t) (omega (arith, inside)) ∙ sym (bit_at_ones j t inside))
    (λ (outside : j ≤ t). bit_at_ones_above k (128 * at + t) (omega (arith, outside)) ∙ sym (bit_at_ones_above j t outside))
    (cases_lt t j))

pub word_of-ones_below : (k at : ℕ) → 128 * at + 128 ≤ k → word_of (2 ^ k - 1) at ≡ 2 ^ 128 - 1
word_of-ones_below k at h =
    word_from_bits (2 ^ k - 1) at (2 ^ 128 - 1) (lit< tt)
    (λ t below. bit_at_ones k (128 * at + t) (omega (arith, h, below)) ∙ sym (bit_at_ones 128 t below))

-- past its words a number has none
past : (ws : List ℕ) (k : ℕ) → length ws ≤ k → get_or ws k 0 ≡ 0
past [] k h = refl
past (w ∷ ws) zero h = absurd (omega (arith, h))
past (w ∷ ws) (suc k) h = past ws k (omega (arith, h))

pub word_of-past : (ws : List ℕ) (k : ℕ) → AreWords ws → length ws ≤ k → word_of (number ws) k ≡ 0
word_of-past ws k h far = word_of-number ws h k ∙ past ws k far
