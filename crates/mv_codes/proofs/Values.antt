-- What codes count as: a value's code counts as that value.
use Rattle.std.proofs.Common.{◌≡◌, ◌∙◌, ℕ, zero, suc, ◌+◌, ◌-◌, ◌*◌, ◌%◌, ◌^◌, ◌<◌, ◌≤◌, Bool, true, false, not, All, List, [], ◌∷◌, length, drop, get_or, nat_eq, replicate, inl, inr, refl, sym, ap, subst, arith}
use Rattle.std.specs.Cmp.{booleans_Decides}
use Rattle.std.specs.Cmp.Lexicographic.{pointwise_decides}
use Rattle.std.specs.List.{list_any, slice_set}
use Rattle.std.proofs.Math.Nat.{one-mul, mod-eq_of_lt}
use Rattle.std.proofs.lemmas.Nat.{pow_below}
use Rattle.std.proofs.lemmas.Bool.{cases_eq, false≢true, eq-eqb, ne_eqb, and_parts, not-true}
use Rattle.std.proofs.lemmas.List.{drop_more, drop_all, length-drop, length-set, get_or-set_same, get_or-set_other, get_or-replicate, length-replicate}
use Rattle.std.proofs.lemmas.List.Elements.{All-head, All-tail, All-get_or}
use Rattle.std.proofs.lemmas.List.Folds.{list_any_at}
use Rattle.std.proofs.lemmas.List.FromFn.{fill_by_all, get_or-map-range_with_len, length-map-range_with_len}
use Rattle.mv_base.specs.declared.limits.TheConstants.{MAX_CODE_BITS, MAX_NETS}
use Rattle.mv_base.specs.declared.number.NetId.{NetId}
use Rattle.mv_entry.specs.declared.rule.Code.{Code}
use Rattle.mv_codes.specs.Codes.{bit_number, bits_number, value_of, code_values, code_bits, bit_of, bits_in, code_eq, codes_differ, AreCodes}
use Rattle.mv_codes.specs.CodeCubes.{number_at}
use Rattle.mv_codes.specs.Tables.{coding_of, value_at}
use Rattle.mv_codes.specs.Rewriting.{IsCoding}
use Rattle.mv_codes.proofs.Numbers.{number_lt, same_bits}

-- all codes have so many bits
abbrev pub AreLong : ℕ → List Code → Type 0
AreLong bits codes = All (λ (c : Code). length c.bits ≡ bits) codes

pub code_bits-get_or : (codes : List Code) (v : ℕ) (d : Code) → v < length codes → code_bits codes v ≡ (get_or codes v d).bits
code_bits-get_or [] v d low = absurd (omega arith)
code_bits-get_or (c ∷ cs) zero d low = refl
code_bits-get_or (c ∷ cs) (suc v) d low = code_bits-get_or cs v d (omega arith)

-- ---- the value of a code

-- a code among the later ones is another
other_code : (c : Code) (cs : List Code) (v : ℕ) → v < length cs → list_any (code_eq c) cs ≡ false → c.bits ≡ code_bits cs v → ⊥
other_code c cs v low none same =
    let here : c.bits ≡ (get_or cs v c).bits = same ∙ code_bits-get_or cs v c low in
    let equal : code_eq c (get_or cs v c) ≡ true = (pointwise_decides booleans_Decides c.bits (get_or cs v c).bits).1 here in
    false≢true (sym none ∙ list_any_at (code_eq c) cs v c low equal)

long_at : (bits : ℕ) (codes : List Code) (v : ℕ) (d : Code) → AreLong bits codes → v < length codes → length (code_bits codes v) ≡ bits
long_at bits codes v d long low = ap length (code_bits-get_or codes v d low) ∙ All-get_or (λ (c : Code). length c.bits ≡ bits) codes v d low long

pub value_of-code : (bits : ℕ) (codes : List Code) (v : ℕ) → AreLong bits codes → codes_differ codes ≡ true → v < length codes → value_of codes (bits_number (code_bits codes v)) ≡ v
value_of-code bits [] v long differ low = absurd (omega arith)
value_of-code bits (c ∷ []) zero long differ low = refl
value_of-code bits (c ∷ []) (suc v) long differ low = absurd (omega arith)
value_of-code bits (c ∷ d ∷ cs) zero long differ low = rw (eq-eqb (bits_number c.bits) (bits_number c.bits) refl) refl
value_of-code bits (c ∷ d ∷ cs) (suc v) long differ low =
    let P = λ (x : Code). length x.bits ≡ bits in
    let p = and_parts (not (list_any (code_eq c) (d ∷ cs))) (codes_differ (d ∷ cs)) differ in
    let rest = All-tail P c (d ∷ cs) long in
    let there : v < length (d ∷ cs) = omega arith in
    let other = code_bits (d ∷ cs) v in
    let as_long : length c.bits ≡ length other = All-head P c (d ∷ cs) long ∙ sym (long_at bits (d ∷ cs) v c rest there) in
    let apart : nat_eq (bits_number c.bits) (bits_number other) ≡ false =
    ne_eqb (bits_number c.bits) (bits_number other) (λ e. other_code c (d ∷ cs) v there (not-true (list_any (code_eq c) (d ∷ cs)) p.0) (same_bits c.bits other as_long e)) in
    rw apart (ap (λ n. n + 1) (value_of-code bits (d ∷ cs) v rest p.1 there) ∙ omega arith)

-- ---- the number that nets have the bits of

pub number_at-bits : (at : ℕ → ℕ) (n : ℕ) (bits : List Bool) → ((k : ℕ) → k < length bits → at (n + k) ≡ bit_number (get_or bits k false)) → number_at at n (length bits) ≡ bits_number bits
number_at-bits at n [] each = refl
number_at-bits at n (b ∷ bs) each =
    let here : at n ≡ bit_number b = ap at (omega arith) ∙ each 0 (omega arith) in
    let rest = number_at-bits at (n + 1) bs (λ k low. ap at (omega arith) ∙ each (suc k) (omega arith)) in
    λ i. here i * 2 ^ length bs + rest i

bits_in-long : (bits : ℕ) (codes : List Code) → AreLong bits codes → 0 < length codes → bits_in codes ≡ bits
bits_in-long bits [] long some = absurd (omega arith)
bits_in-long bits (c ∷ cs) long some = All-head (λ (x : Code). length x.bits ≡ bits) c cs long

-- where the bits are those of a value's code they count as the value
pub value_at-code : (n first values bits v : ℕ) (codes : List Code) (at : ℕ → ℕ) → AreCodes values bits codes → v < values → ((k : ℕ) → k < bits → at (first + k) ≡ bit_number (bit_of codes k v)) → value_at (coding_of n first codes) at ≡ v
unfolding coding_of code_values bit_of
value_at-code n first values bits v codes at are low each =
    let there : v < length codes = omega (arith, are.count) in
    let own = code_bits codes v in
    let some : 0 < length codes = omega arith in
    let first_long : bits_in codes ≡ bits = bits_in-long bits codes are.long some in
    let long : length own ≡ bits = by_long there in
    let number : number_at at first (bits_in codes) ≡ bits_number own =
    ap (number_at at first) (first_long ∙ sym long) ∙ number_at-bits at first own (λ k in_own. each k (omega (arith, long))) in
    let fits : number_at at first (bits_in codes) < 2 ^ bits_in codes =
    subst (λ x. x < 2 ^ bits_in codes) (sym number) (subst (λ b. bits_number own < 2 ^ b) (long ∙ sym first_long) (number_lt own)) in
    get_or-map-range_with_len (value_of codes) 0 (2 ^ bits_in codes) (number_at at first (bits_in codes)) (number_at at first (bits_in codes)) 0 fits (omega arith)
    ∙ (ap (value_of codes) number ∙ value_of-code bits codes v are.long are.differ there)
  where
    by_long : v < length codes → length (code_bits codes v) ≡ bits
    by_long there = elim codes as (λ cs. AreLong bits cs → v < length cs → length (code_bits cs v) ≡ bits) [ [] ↦ λ l low. absurd (omega arith) | c ∷ cs ↦ λ l low. long_at bits (c ∷ cs) v c l low ] are.long there

-- ---- the loop that finds the values, from the last on

-- the values of the codes from this place on, as they are counted from the first on
pub record AreCounted (codes : List Code) (bits place : ℕ) (values : List ℕ) : Type 0 where
  pub low : place < length codes
  pub long : length values ≡ 2 ^ bits
  pub each : (x : ℕ) → x < 2 ^ bits → get_or values x 0 ≡ place + value_of (drop place codes) x

last_one : (codes : List Code) → (c : Code) → (x : ℕ) → codes ≡ c ∷ [] → value_of codes x ≡ 0
last_one codes c x e = ap (λ cs. value_of cs x) e

pub counted_last : (codes : List Code) (bits place : ℕ) (values : List ℕ) → 0 < length codes → place ≡ length codes - 1 → values ≡ replicate (2 ^ bits) place → AreCounted codes bits place values
counted_last [] bits place values some last all = absurd (omega arith)
counted_last (c ∷ cs) bits place values some last all =
    let codes = c ∷ cs in
    let low : place < length codes = omega arith in
    let end : drop (place + 1) codes ≡ [] = drop_all (place + 1) codes (omega arith) in
    let rest : drop place codes ≡ get_or codes place c ∷ [] = drop_more codes place c low ∙ ap (λ x. get_or codes place c ∷ x) end in
    record {
      low = low;
      long = ap length all ∙ length-replicate (2 ^ bits) place;
      each = λ x small. ap (λ xs. get_or xs x 0) all ∙ (get_or-replicate (2 ^ bits) x place 0 small ∙ omega (arith, last_one (drop place codes) (get_or codes place c) x rest));
    }

-- the first of two codes and more
value_more : (c : Code) (rest : List Code) (x : ℕ) → 0 < length rest → nat_eq (bits_number c.bits) x ≡ false → value_of (c ∷ rest) x ≡ value_of rest x + 1
value_more c [] x some other = absurd (omega arith)
value_more c (d ∷ ds) x some other = rw other refl

value_here : (c : Code) (rest : List Code) (x : ℕ) → nat_eq (bits_number c.bits) x ≡ true → value_of (c ∷ rest) x ≡ 0
value_here c [] x same = refl
value_here c (d ∷ ds) x same = rw same refl

pub counted_more : (codes : List Code) (bits place before number : ℕ) (values now : List ℕ) (c : Code) → before + 1 ≡ place → c ≡ get_or codes before c → number ≡ bits_number c.bits → number < 2 ^ bits → now ≡ slice_set values number before → AreCounted codes bits place values → AreCounted codes bits before now
counted_more codes bits place before number values now c next here is_number fits put is =
    let low : before < length codes = omega (arith, is.low) in
    let split : drop before codes ≡ c ∷ drop place codes = drop_more codes before c low ∙ (λ i. sym here i ∷ drop (next i) codes) in
    let some : 0 < length (drop place codes) = omega (arith, length-drop place codes, is.low) in
    record {
      low = low;
      long = ap length put ∙ (length-set values number before ∙ is.long);
      each = λ x small.
          ap (λ xs. get_or xs x 0) put
          ∙ elim (cases_eq x number) [
            | inl e ↦
                let test : nat_eq (bits_number c.bits) x ≡ true = eq-eqb (bits_number c.bits) x (sym (e ∙ is_number)) in
                let value : value_of (drop before codes) x ≡ 0 = ap (λ cs. value_of cs x) split ∙ value_here c (drop place codes) x test in
                subst (λ y. get_or (slice_set values number before) y 0 ≡ before + value_of (drop before codes) x) (sym e) (get_or-set_same values number before 0 (omega (arith, is.long, fits)) ∙ omega (arith, value))
            | inr ne ↦
                let test : nat_eq (bits_number c.bits) x ≡ false = ne_eqb (bits_number c.bits) x (λ e. ne (sym (is_number ∙ e))) in
                let value : value_of (drop before codes) x ≡ value_of (drop place codes) x + 1 = ap (λ cs. value_of cs x) split ∙ value_more c (drop place codes) x some test in
                get_or-set_other values number x before 0 ne ∙ (is.each x small ∙ omega (arith, value, next))
          ];
    }

pub counted_all : (codes : List Code) (bits place : ℕ) (values : List ℕ) → place ≡ 0 → AreCounted codes bits place values → values ≡ code_values codes bits
unfolding code_values
counted_all codes bits place values none is =
    fill_by_all (value_of codes) values (2 ^ bits) 0 is.long (λ x small. subst (λ p. get_or values x 0 ≡ p + value_of (drop p codes) x) none (is.each x small) ∙ omega arith)

-- ---- what the code makes of it

-- the number of a code fits
pub number_fits : (codes : List Code) (bits place number : ℕ) (code : Code) (own : List Bool) → AreLong bits codes → place < length codes → code ≡ get_or codes place code → own ≡ code.bits → number < 2 ^ length own → number < 2 ^ bits
number_fits codes bits place number code own long low here is small =
    let as_long : length own ≡ bits = ap length is ∙ (ap (λ (c : Code). length c.bits) here ∙ All-get_or (λ (c : Code). length c.bits ≡ bits) codes place code low long) in
    subst (λ b. number < 2 ^ b) as_long small

pub bits_in-first : (codes : List Code) (c : Code) (bits : ℕ) → 0 < length codes → c ≡ get_or codes 0 c → bits ≡ length c.bits → bits ≡ bits_in codes
bits_in-first [] c bits some here is = absurd (omega arith)
bits_in-first (d ∷ ds) c bits some here is = is ∙ ap (λ (x : Code). length x.bits) here

pub coding_is : (net first : NetId) (codes : List Code) (bits : ℕ) (values : List ℕ) → bits ≡ bits_in codes → values ≡ code_values codes bits → record { net = net; first = first; bits = bits; values = values } ≡ coding_of net.0 first.0 codes
unfolding coding_of
coding_is net first codes bits values b v = λ i. record { net = net; first = first; bits = b i; values = (v ∙ ap (code_values codes) b) i }

pub is_coding : (net first : NetId) (codes : List Code) (bits : ℕ) (values : List ℕ) → bits ≡ bits_in codes → values ≡ code_values codes bits → bits_in codes ≤ MAX_CODE_BITS → first.0 ≤ MAX_NETS → IsCoding (record { net = net; first = first; bits = bits; values = values })
unfolding code_values
is_coding net first codes bits values b v few low = record {
  whole = ap length v ∙ length-map-range_with_len (value_of codes) 0 (2 ^ bits);
  few = subst (λ n. n ≤ MAX_CODE_BITS) (sym b) few;
  low = low;
}

-- one shifted by so many bits
pub shifted_one : (bits : ℕ) → bits ≤ MAX_CODE_BITS → 1 * 2 ^ bits % 2 ^ 64 ≡ 2 ^ bits
shifted_one bits few = let small : 2 ^ bits < 2 ^ 64 = pow_below bits 64 (omega arith) in ap (λ n. n % 2 ^ 64) (one-mul (2 ^ bits)) ∙ mod-eq_of_lt small
