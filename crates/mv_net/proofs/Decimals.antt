-- Bytes that are a decimal number without leading zeros, and their number.
use Rattle.std.proofs.Common.{◌≡◌, ◌∙◌, ℕ, zero, suc, ◌<◌, ◌^◌, true, ◌&&◌, ◌⊎◌, inl, inr, ⊎_elim, List, [], ◌∷◌, length, get_or, Option, Some, None, Result, Ok, Err, decimal, nat_lt, nat_eq, refl, sym, ap, subst, arith}
use Rattle.std.specs.Prelude.{IfSome, IsNone}
use Rattle.std.specs.Result.{result_ok, OkIff}
use Rattle.std.specs.Str.{IsUtf8}
use Rattle.std.specs.Str.Parse.{AllDigits, digits_value, ParsesUnsigned}
use Rattle.std.proofs.lemmas.Bool.{and_parts, or_cases, or_left, eqb-true, ltb-true, lt-ltb, false≢true}
use Rattle.std.proofs.lemmas.Fmt.{decimal_digit, decimal_nonempty, first_decimal, parse-decimal, decimal-digits_value, IsAscii-decimal}
use Rattle.std.proofs.lemmas.Str.{IsUtf8-from_ascii}
use Rattle.std.proofs.lemmas.Str.Parse.{IsNumeralModel, numerals_by_value, tells_digits, parse_plain}
use Rattle.mv_net.specs.Fresh.{is_plain}

-- ---- how a number begins

pub decimal-plain : (n : ℕ) → n < 2 ^ 64 → is_plain (decimal n) ≡ true
decimal-plain zero small = ap is_plain (decimal_digit 0 (omega arith))
decimal-plain (suc n) small = by (decimal (suc n)) refl
  where
    by : (ds : List ℕ) → decimal (suc n) ≡ ds → is_plain ds ≡ true
    by [] e = absurd (omega (arith, decimal_nonempty (suc n) small, ap length e))
    by (d ∷ ds) e =
        let above : 48 < d = omega (arith, first_decimal (suc n) (omega arith) small, ap (λ l. get_or l 0 0) e) in
        or_left (nat_lt 48 d) _ (lt-ltb 48 d above)

plain_begins : (ds : List ℕ) → is_plain ds ≡ true → (48 < get_or ds 0 0) ⊎ ((get_or ds 0 0 ≡ 48) × (length ds ≡ 1))
plain_begins [] p = absurd (false≢true p)
plain_begins (d ∷ ds) p =
    ⊎_elim
    (λ (y : nat_lt 48 d ≡ true). inl (ltb-true 48 d y))
    (λ (rest : (nat_eq d 48 && nat_eq (length (d ∷ ds)) 1) ≡ true). let q = and_parts (nat_eq d 48) (nat_eq (length (d ∷ ds)) 1) rest in inr (eqb-true d 48 q.0, eqb-true (length (d ∷ ds)) 1 q.1))
    (or_cases (nat_lt 48 d) (nat_eq d 48 && nat_eq (length (d ∷ ds)) 1) p)

no_plus : (ds : List ℕ) → is_plain ds ≡ true → get_or ds 0 0 ≡ 43 → ⊥
no_plus ds p e = ⊎_elim (λ (l : 48 < get_or ds 0 0). absurd (omega arith)) (λ (z : (get_or ds 0 0 ≡ 48) × (length ds ≡ 1)). absurd (omega (arith, z.0))) (plain_begins ds p)

one_zero : (ds : List ℕ) → is_plain ds ≡ true → get_or ds 0 0 ≡ 48 → length ds ≡ 1
one_zero ds p e = ⊎_elim (λ (l : 48 < get_or ds 0 0). absurd (omega arith)) (λ (z : (get_or ds 0 0 ≡ 48) × (length ds ≡ 1)). z.1) (plain_begins ds p)

-- ---- what is read

-- the number that was read, in decimal, is the bytes
record Read (ds : List ℕ) (n : ℕ) : Type 0 where
  is : ds ≡ decimal n
  small : n < 2 ^ 32

own : IsNumeralModel (AllDigits 10) (digits_value 10)
own = numerals_by_value (AllDigits 10) tells_digits

read_some : {E : Type 0} (ds text : List ℕ) (r : Result ℕ E) (o : Option ℕ) → is_plain ds ≡ true → text ≡ ds → ParsesUnsigned 32 10 text r → o ≡ result_ok r → IfSome o (Read ds)
read_some {E} ds text r o p same h e = subst (λ (x : Option ℕ). IfSome x (Read ds)) (sym e) (by r (parse_plain own 32 ds r (subst (λ l. ParsesUnsigned 32 10 l r) same h) (no_plus ds p)))
  where
    by : (r : Result ℕ E) → OkIff r (AllDigits 10 ds × (0 < length ds) × (digits_value 10 ds < 2 ^ 32)) (digits_value 10 ds) → IfSome (result_ok r) (Read ds)
    by (Ok n) q = record {
      is = sym (ap decimal q.1 ∙ decimal-digits_value own ds q.0.0 q.0.1 (one_zero ds p) (omega (arith, q.0.2)));
      small = omega (arith, q.0.2, q.1);
    }
    by (Err x) q = tt

pub read_is : {E : Type 0} (ds text : List ℕ) (r : Result ℕ E) (o : Option ℕ) → is_plain ds ≡ true → text ≡ ds → ParsesUnsigned 32 10 text r → o ≡ result_ok r → IfSome o (λ n. ds ≡ decimal n)
read_is ds text r o p same h e = at o (read_some ds text r o p same h e)
  where
    at : (o : Option ℕ) → IfSome o (Read ds) → IfSome o (λ n. ds ≡ decimal n)
    at None i = tt
    at (Some n) i = i.is

pub read_small : {E : Type 0} (ds text : List ℕ) (r : Result ℕ E) (o : Option ℕ) → is_plain ds ≡ true → text ≡ ds → ParsesUnsigned 32 10 text r → o ≡ result_ok r → IfSome o (λ n. n < 2 ^ 32)
read_small ds text r o p same h e = at o (read_some ds text r o p same h e)
  where
    at : (o : Option ℕ) → IfSome o (Read ds) → IfSome o (λ n. n < 2 ^ 32)
    at None i = tt
    at (Some n) i = i.small

-- where nothing is read the bytes are no number
pub read_none : {E : Type 0} (ds text : List ℕ) (r : Result ℕ E) (o : Option ℕ) (n : ℕ) → text ≡ ds → ParsesUnsigned 32 10 text r → o ≡ result_ok r → IsNone o → n < 2 ^ 32 → ds ≡ decimal n → ⊥
read_none {E} ds text r o n same h e none small is =
    let read : r ≡ Ok n = parse-decimal 32 n text r small (omega arith) (same ∙ is) h in
    let got : o ≡ Some n = e ∙ ap result_ok read in
    let P : Option ℕ → Type 0 = λ x. IsNone x in
    false≢true (sym (subst P got none))

pub decimal-utf8 : (ds : List ℕ) (n : ℕ) → n < 2 ^ 32 → ds ≡ decimal n → IsUtf8 ds
decimal-utf8 ds n small is = subst IsUtf8 (sym is) (IsUtf8-from_ascii (decimal n) (IsAscii-decimal n (omega arith)))
