-- What follows of codes by their form: that they have some bit, and that each counts as one of the values.
use Rattle.std.proofs.Common.{◌≡◌, ◌∙◌, ℕ, zero, suc, ◌+◌, ◌<◌, ◌≤◌, ◌^◌, Bool, true, not, nat_eq, List, [], ◌∷◌, length, map, get_or, All, refl, sym, ap, subst, arith}
use Rattle.std.specs.Bool.{beq}
use Rattle.std.specs.List.{list_any, range_with_len}
use Rattle.std.specs.Cmp.Lexicographic.{pointwise}
use Rattle.std.proofs.lemmas.Bool.{cond_both, and_parts, or_left, false≢true, not-true}
use Rattle.std.proofs.lemmas.List.Elements.{All-head, All-tail}
use Rattle.std.proofs.lemmas.List.FromFn.{get_or-map-range_with_len, length-map-range_with_len}
use Rattle.mv_base.specs.declared.limits.TheConstants.{MAX_CODE_BITS, MAX_NETS}
use Rattle.mv_codes.specs.Codes.{value_of, code_values, bits_in, code_eq, codes_differ, AreCodes}
use Rattle.mv_codes.specs.CodeCubes.{number_at, AreBits}
use Rattle.mv_codes.specs.Rewriting.{IsCoding}
use Rattle.mv_codes.specs.Tables.{coding_of, value_at}
use Rattle.mv_codes.proofs.Marked.{number_low}
use Rattle.mv_entry.specs.declared.rule.Code.{Code}

-- ---- bits

empty_bits : (bs : List Bool) → length bs ≡ 0 → bs ≡ []
empty_bits [] e = refl
empty_bits (b ∷ bs) e = absurd (omega arith)

-- two codes without bits are equal
no_bits : (codes : List Code) → 1 < length codes → All (λ (c : Code). length c.bits ≡ 0) codes → codes_differ codes ≡ true → ⊥
no_bits [] several long differ = omega arith
no_bits (c ∷ []) several long differ = omega arith
no_bits (c ∷ d ∷ cs) several long differ =
    let P = λ (e : Code). length e.bits ≡ 0 in
    let first = empty_bits c.bits (All-head P c (d ∷ cs) long) in
    let second = empty_bits d.bits (All-head P d cs (All-tail P c (d ∷ cs) long)) in
    let equal : code_eq c d ≡ true = ap (λ bs. pointwise beq bs d.bits) first ∙ ap (pointwise beq []) second in
    let some : list_any (code_eq c) (d ∷ cs) ≡ true = or_left (code_eq c d) (list_any (code_eq c) cs) equal in
    let apart = and_parts (not (list_any (code_eq c) (d ∷ cs))) (codes_differ (d ∷ cs)) differ in
    false≢true (sym (not-true (list_any (code_eq c) (d ∷ cs)) apart.0) ∙ some)

pub some_bits : (values bits : ℕ) (codes : List Code) → AreCodes values bits codes → 0 < bits
some_bits values zero codes are =
    let count = are.count in let several = are.several in
    absurd (no_bits codes (omega arith) are.long are.differ)
some_bits values (suc bits) codes are = omega arith

pub bits_of : (values bits : ℕ) (codes : List Code) → AreCodes values bits codes → bits_in codes ≡ bits
bits_of values bits [] are = let count = are.count in let several = are.several in absurd (omega arith)
bits_of values bits (c ∷ cs) are = All-head (λ (e : Code). length e.bits ≡ bits) c cs are.long

-- ---- values

value_below : (codes : List Code) (x : ℕ) → 0 < length codes → value_of codes x < length codes
value_below [] x some = absurd (omega arith)
value_below (c ∷ []) x some = omega arith
value_below (c ∷ d ∷ cs) x some =
    let rest = value_below (d ∷ cs) x (omega arith) in
    cond_both (nat_eq _ x) 0 (value_of (d ∷ cs) x + 1) (λ v. v < length (c ∷ d ∷ cs)) (λ y. omega arith) (λ f. omega (arith, rest))

-- what the bits count as is one of the values
pub value_low : (n first values bits : ℕ) (codes : List Code) (at : ℕ → ℕ) → AreCodes values bits codes → AreBits at first bits → value_at (coding_of n first codes) at < values
unfolding coding_of code_values
value_low n first values bits codes at are two =
    let same = bits_of values bits codes are in
    let low : number_at at first (bits_in codes) < 2 ^ bits_in codes = subst (λ k. number_at at first k < 2 ^ k) (sym same) (number_low at first bits two.two) in
    let i = number_at at first (bits_in codes) in
    let is : get_or (map (value_of codes) (range_with_len 0 (2 ^ bits_in codes))) i 0 ≡ value_of codes i = get_or-map-range_with_len (value_of codes) 0 (2 ^ bits_in codes) i i 0 low (omega arith) in
    let several = are.several in
    subst (λ v. v < values) (sym is) (subst (λ k. value_of codes i < k) are.count (value_below codes i (omega (arith, are.count))))

-- ---- the coding by these codes

-- it has a value for each code, and numbers for the bits
pub is_coding : (n first values bits : ℕ) (codes : List Code) → AreCodes values bits codes → first ≤ MAX_NETS → IsCoding (coding_of n first codes)
unfolding coding_of code_values
is_coding n first values bits codes are low = record {
  whole = length-map-range_with_len (value_of codes) 0 (2 ^ bits_in codes);
  few = subst (λ k. k ≤ MAX_CODE_BITS) (sym (bits_of values bits codes are)) are.few;
  low = low;
}
