-- Values in binary: each has a code of its own, in the fewest bits.
use Rattle.std.proofs.Common.{◌≡◌, ◌∙◌, ℕ, zero, suc, ◌+◌, ◌-◌, ◌*◌, ◌/◌, ◌%◌, ◌^◌, ◌<◌, ◌≤◌, Bool, true, false, not, ◌||◌, List, [], ◌∷◌, ◌++◌, length, map, All, refl, sym, ap, subst, ⊎_elim, append_assoc, add-one, arith}
use Rattle.std.specs.Bool.{beq}
use Rattle.std.specs.Cmp.Lexicographic.{pointwise}
use Rattle.std.specs.Int.{bit_at}
use Rattle.std.specs.List.{list_any, range_with_len}
use Rattle.std.specs.Prelude.{◌==◌, bit_and}
use Rattle.std.proofs.Math.Nat.{mod-eq_of_lt, mod-one, pow-suc}
use Rattle.std.proofs.lemmas.Bool.{and_from, and_parts, cases_lt, false_from_ne_true, false≢true}
use Rattle.std.proofs.lemmas.List.Elements.{All-cons, All-map, All-nil}
use Rattle.std.proofs.lemmas.List.FromFn.{length-map-range_with_len, map-range_with_len_more}
use Rattle.std.proofs.lemmas.Nat.{mod-pow-add}
use Rattle.std.proofs.lemmas.Nat.Bits.{bit_at-lt, shr_and_one}
use Rattle.mv_base.specs.declared.limits.TheConstants.{MAX_CODE_BITS, MAX_VALUES}
use Rattle.mv_codes.specs.Codes.{AreCodes, bit_number, bits_number, code_eq, codes_differ}
use Rattle.mv_entry.specs.declared.rule.Code.{Code}
use Rattle.mv_encode.specs.Encodes.{AreFewest, binary, code_of, codes_of}

-- ---- the bits of a number

length-binary : (k v : ℕ) → length (binary k v) ≡ k
length-binary zero v = refl
length-binary (suc k) v = ap suc (length-binary k v)

bit_is : (b : ℕ) → b < 2 → bit_number (b == 1) ≡ b
bit_is zero low = refl
bit_is (suc zero) low = refl
bit_is (suc (suc b)) low = absurd (omega (arith, low))

number-binary : (k v : ℕ) → bits_number (binary k v) ≡ v % 2 ^ k
number-binary zero v = sym (mod-one v)
number-binary (suc k) v =
    let next : 1 + k ≡ suc k = omega arith in
    let rest = bits_number (binary k v) in
    ap (λ l. bit_number (bit_at v k == 1) * 2 ^ l + rest) (length-binary k v)
    ∙ (ap (λ b. b * 2 ^ k + rest) (bit_is (bit_at v k) (bit_at-lt v k))
    ∙ (ap (λ r. bit_at v k * 2 ^ k + r) (number-binary k v) ∙ (sym (mod-pow-add v 1 k) ∙ ap (λ m. v % 2 ^ m) next)))

-- one bit more, where so many are left
pub binary_more : (digits : List Bool) (bits before left v : ℕ) → 0 < before → left ≡ before - 1 → digits ++ binary before v ≡ binary bits v
    → (digits ++ (bit_and (v / 2 ^ left) 1 == 1) ∷ []) ++ binary left v ≡ binary bits v
binary_more digits bits zero left v some is so_far = absurd (omega (arith, some))
binary_more digits bits (suc before) left v some is so_far =
    let e : before ≡ left = omega (arith, is) in
    append_assoc digits ((bit_and (v / 2 ^ left) 1 == 1) ∷ []) (binary left v)
    ∙ (ap (λ b. digits ++ (b == 1) ∷ binary left v) (shr_and_one v left) ∙ subst (λ l. digits ++ (bit_at v l == 1) ∷ binary l v ≡ binary bits v) e so_far)

-- ---- codes differ

same_bit : (a b : Bool) → beq a b ≡ true → a ≡ b
same_bit true true e = refl
same_bit false false e = refl
same_bit true false e = absurd (false≢true e)
same_bit false true e = absurd (false≢true e)

same_bits : (xs ys : List Bool) → pointwise beq xs ys ≡ true → xs ≡ ys
same_bits [] [] e = refl
same_bits [] (y ∷ ys) e = absurd (false≢true e)
same_bits (x ∷ xs) [] e = absurd (false≢true e)
same_bits (x ∷ xs) (y ∷ ys) e =
    let parts = and_parts (beq x y) (pointwise beq xs ys) e in
    ap (λ b. b ∷ xs) (same_bit x y parts.0) ∙ ap (λ bs. y ∷ bs) (same_bits xs ys parts.1)

-- a code is that of one value alone
one_value : (bits v w : ℕ) → v < 2 ^ bits → w < 2 ^ bits → code_eq (code_of bits v) (code_of bits w) ≡ true → v ≡ w
one_value bits v w low small e =
    sym (mod-eq_of_lt low)
    ∙ (sym (number-binary bits v) ∙ (ap bits_number (same_bits (binary bits v) (binary bits w) e) ∙ (number-binary bits w ∙ mod-eq_of_lt small)))

not_later : (bits v a n : ℕ) → v < a → a + n ≤ 2 ^ bits → list_any (code_eq (code_of bits v)) (map (code_of bits) (range_with_len a n)) ≡ false
not_later bits v a zero less fits = refl
not_later bits v a (suc n) less fits =
    let here : code_eq (code_of bits v) (code_of bits a) ≡ false =
    false_from_ne_true _ (λ e. let same = one_value bits v a (omega (arith, less, fits)) (omega (arith, fits)) e in omega (arith, same, less)) in
    ap (λ b. b || list_any (code_eq (code_of bits v)) (map (code_of bits) (range_with_len (a + 1) n))) here
    ∙ not_later bits v (a + 1) n (omega (arith, less)) (omega (arith, fits))

all_differ : (bits a n : ℕ) → a + n ≤ 2 ^ bits → codes_differ (map (code_of bits) (range_with_len a n)) ≡ true
all_differ bits a zero fits = refl
all_differ bits a (suc n) fits =
    and_from _ _ (ap not (not_later bits a (a + 1) n (omega arith) (omega (arith, fits)))) (all_differ bits (a + 1) n (omega (arith, fits)))

all_long : (bits a n : ℕ) → All (λ (c : Code). length c.bits ≡ bits) (map (code_of bits) (range_with_len a n))
all_long bits a n = All-map (λ (c : Code). length c.bits ≡ bits) (code_of bits) (range_with_len a n) (each a n)
  where
    each : (a n : ℕ) → All (λ v. length (binary bits v) ≡ bits) (range_with_len a n)
    each a zero = All-nil (λ v. length (binary bits v) ≡ bits)
    each a (suc n) = All-cons (λ v. length (binary bits v) ≡ bits) a (range_with_len (a + 1) n) (length-binary bits a) (each (a + 1) n)

-- ---- the fewest bits

pub few_bits : (values bits : ℕ) → values ≤ MAX_VALUES → AreFewest values bits → bits ≤ MAX_CODE_BITS
few_bits values bits few f = f.fewest MAX_CODE_BITS few

pub are_codes : (values bits : ℕ) → 2 < values → values ≤ MAX_VALUES → AreFewest values bits → AreCodes values bits (codes_of bits values)
unfolding codes_of
are_codes values bits several few f = record {
  several = several;
  count = length-map-range_with_len (code_of bits) 0 values;
  long = all_long bits 0 values;
  differ = all_differ bits 0 values (omega (arith, f.enough));
  few = few_bits values bits few f;
}

-- ---- one after the other

pub codes_none : (bits : ℕ) (codes : List Code) → codes ≡ [] → codes ≡ codes_of bits 0
unfolding codes_of
codes_none bits codes none = none

pub codes_more : (bits v : ℕ) (codes now : List Code) (code : Code) → code ≡ code_of bits v → now ≡ codes ++ code ∷ [] → codes ≡ codes_of bits v → now ≡ codes_of bits (v + 1)
unfolding codes_of
codes_more bits v codes now code is more so_far =
    more ∙ (ap (λ c. codes ++ c ∷ []) is ∙ (ap (λ cs. cs ++ code_of bits v ∷ []) so_far ∙ sym (map-range_with_len_more (code_of bits) 0 v v (omega arith))))

-- ---- bits are counted

-- room for codes of so many bits, each fewer of which have too little
pub record IsDoubled (values bits room : ℕ) : Type 0 where
  pub is : room ≡ 2 ^ bits
  pub low : bits < room
  pub short : (fewer : ℕ) → fewer < bits → 2 ^ fewer < values

pub doubled_none : (values : ℕ) → IsDoubled values 0 1
doubled_none values = record { is = refl; low = omega arith; short = λ fewer less. absurd (omega (arith, less)) }

pub doubled_more : (values bits room twice : ℕ) → room < values → twice ≡ room * 2 → IsDoubled values bits room → IsDoubled values (bits + 1) twice
doubled_more values bits room twice little is d = record {
  is = is ∙ (ap (λ r. r * 2) d.is ∙ (sym (pow-suc 2 bits) ∙ ap (λ k. 2 ^ k) (sym (add-one bits))));
  low = omega (arith, is, d.low);
  short = λ fewer less.
      ⊎_elim
      (λ (below : fewer < bits). d.short fewer below)
      (λ (up : bits ≤ fewer). let e : bits ≡ fewer = omega (arith, up, less) in subst (λ k. 2 ^ k < values) e (subst (λ r. r < values) d.is little))
      (cases_lt fewer bits);
}

pub doubled_all : (values bits room : ℕ) → values ≤ room → IsDoubled values bits room → AreFewest values bits
doubled_all values bits room enough d = record {
  enough = omega (arith, enough, d.is);
  fewest = λ others most.
      ⊎_elim
      (λ (less : others < bits). let short = d.short others less in absurd (omega (arith, short, most)))
      (λ (up : bits ≤ others). up)
      (cases_lt others bits);
}
