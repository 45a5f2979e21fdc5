-- Numbers of bits: each fits, and no two lists of as many bits have the same.
use Rattle.std.proofs.Common.{◌≡◌, ℕ, suc, ◌+◌, ◌*◌, ◌^◌, ◌<◌, ◌≤◌, Bool, true, false, List, [], ◌∷◌, length, drop, get_or, refl, ap, subst, arith}
use Rattle.std.specs.Int.{from_bool}
use Rattle.std.proofs.Math.Nat.{pow-suc, pow-le-pow_right, le-mul_of_pos_right}
use Rattle.std.proofs.lemmas.Nat.{pow_pos}
use Rattle.std.proofs.lemmas.List.{drop_more, drop_all}
use Rattle.mv_codes.specs.Codes.{bit_number, bits_number}

pub bit_low : (b : Bool) → bit_number b < 2
bit_low true = omega arith
bit_low false = omega arith

-- a bit as a byte is the bit as a value
pub byte_is : (b : Bool) → from_bool b ≡ bit_number b
byte_is true = refl
byte_is false = refl

pub number_lt : (bits : List Bool) → bits_number bits < 2 ^ length bits
number_lt [] = omega arith
number_lt (b ∷ bs) =
    let rest = number_lt bs in
    let double : 2 ^ suc (length bs) ≡ 2 ^ length bs * 2 = pow-suc 2 (length bs) in
    first b rest double
  where
    first : (b : Bool) → bits_number bs < 2 ^ length bs → 2 ^ suc (length bs) ≡ 2 ^ length bs * 2 → bit_number b * 2 ^ length bs + bits_number bs < 2 ^ suc (length bs)
    first true rest double = omega (arith, rest, double)
    first false rest double = omega (arith, rest, double)

-- lists of as many bits with one number are one list
pub same_bits : (others bits : List Bool) → length others ≡ length bits → bits_number others ≡ bits_number bits → others ≡ bits
same_bits [] [] long same = refl
same_bits [] (b ∷ bs) long same = absurd (omega arith)
same_bits (a ∷ xs) [] long same = absurd (omega arith)
same_bits (a ∷ xs) (b ∷ bs) long same =
    let short : length xs ≡ length bs = omega arith in
    first a b (ap (λ n. 2 ^ n) short) (number_lt xs) (number_lt bs) (same_bits xs bs short) same
  where
    first : (a b : Bool) → 2 ^ length xs ≡ 2 ^ length bs → bits_number xs < 2 ^ length xs → bits_number bs < 2 ^ length bs → (bits_number xs ≡ bits_number bs → xs ≡ bs) → bit_number a * 2 ^ length xs + bits_number xs ≡ bit_number b * 2 ^ length bs + bits_number bs → a ∷ xs ≡ b ∷ bs
    first true true wide low high rest same = ap (λ r. true ∷ r) (rest (omega arith))
    first false false wide low high rest same = ap (λ r. false ∷ r) (rest (omega arith))
    first true false wide low high rest same = absurd (omega arith)
    first false true wide low high rest same = absurd (omega arith)

-- ---- a loop that reads the bits from the first on

-- n is the number of the bits before place i
pub record IsRead (bits : List Bool) (i n : ℕ) : Type 0 where
  pub whole : n * 2 ^ length (drop i bits) + bits_number (drop i bits) ≡ bits_number bits

pub read_none : (bits : List Bool) → IsRead bits 0 0
read_none bits = record { whole = omega arith }

pub read_more : (bits : List Bool) (i n m : ℕ) → i < length bits → m ≡ 2 * n + bit_number (get_or bits i false) → IsRead bits i n → IsRead bits (i + 1) m
read_more bits i n m low more is =
    let b = get_or bits i false in
    let rest = drop (i + 1) bits in
    let whole : n * 2 ^ length (b ∷ rest) + bits_number (b ∷ rest) ≡ bits_number bits = subst (λ ds. n * 2 ^ length ds + bits_number ds ≡ bits_number bits) (drop_more bits i false low) is.whole in
    record { whole = rw more (next n (2 ^ length rest) (2 ^ suc (length rest)) (bit_number b) (bits_number rest) (bits_number bits) (pow-suc 2 (length rest)) whole) }
  where
    next : (n p q d r t : ℕ) → q ≡ p * 2 → n * q + (d * p + r) ≡ t → (2 * n + d) * p + r ≡ t
    next n p q d r t double whole = grind (arith, double, whole)

pub read_all : (bits : List Bool) (i n : ℕ) → length bits ≤ i → IsRead bits i n → n ≡ bits_number bits
read_all bits i n all is =
    let none : drop i bits ≡ [] = drop_all i bits all in
    let whole : n * 1 + 0 ≡ bits_number bits = subst (λ ds. n * 2 ^ length ds + bits_number ds ≡ bits_number bits) none is.whole in
    omega (arith, whole)

-- what is read so far is small
pub read_low : (bits : List Bool) (i n k : ℕ) → length bits ≤ k → IsRead bits i n → n < 2 ^ k
read_low bits i n k short is =
    let all = number_lt bits in
    let wide : 2 ^ length bits ≤ 2 ^ k = pow-le-pow_right {n = 2} (omega arith) short in
    let one : 0 < 2 ^ length (drop i bits) = pow_pos (length (drop i bits)) in
    let most : n ≤ n * 2 ^ length (drop i bits) = le-mul_of_pos_right n one in
    omega (arith, is.whole, all, wide, most)
