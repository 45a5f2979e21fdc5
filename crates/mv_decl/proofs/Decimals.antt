-- Names of plain bytes, numbers in decimal among them: they are lawful, and different numbers have different names.
use Rattle.std.proofs.Common.{◌≡◌, ℕ, zero, suc, ◌+◌, ◌-◌, ◌%◌, ◌^◌, ◌<◌, ◌≤◌, Bool, true, false, not, ◌||◌, ◌&&◌, List, [], ◌∷◌, ◌++◌, length, length-append, get_or, decimal, refl, sym, ◌∙◌, ap, arith}
use Rattle.std.specs.Prelude.{nat_le, ◌==◌, codes}
use Rattle.std.specs.List.{list_all, list_any}
use Rattle.std.proofs.lemmas.Bool.{false≢true, false_from_ne_true, and_from, and_parts, and_right, or_from, not_from_false, eqb-true, lt-ltb}
use Rattle.std.proofs.lemmas.Bool.Decides.{nat_tests}
use Rattle.std.proofs.lemmas.List.Folds.{list_all-append}
use Rattle.std.proofs.lemmas.Fmt.{decimal_by_steps, decimal_nonempty, decimal_injective}
use Rattle.mv_base.specs.Names.{same_word, begins_with, ends_with, is_visible, is_bracketed, is_word, is_net_name, is_value_name, among, names_differ}
use Rattle.mv_base.proofs.NameLemmas.{same_word_is, among-append, differ-push}
use Rattle.mv_decl.specs.Line.{numbers_below}
use Rattle.mv_decl.proofs.Numbers.{numbers_more}

-- a digit, a small letter or an underscore
abbrev pub is_plain : ℕ → Bool
is_plain b = (nat_le 48 b && nat_le b 57) || (b == 95) || (nat_le 97 b && nat_le b 122)

-- ---- what a plain byte isn't

other : (c b : ℕ) → is_plain c ≡ false → is_plain b ≡ true → (b == c) ≡ false
other c b n y = false_from_ne_true (b == c) (λ e. false≢true (sym n ∙ (ap is_plain (sym (eqb-true b c e)) ∙ y)))

plain-visible : (b : ℕ) → is_plain b ≡ true → (is_visible b && not (b == 35)) ≡ true
plain-visible b y = grind (arith, nat_tests)

seen : (w : List ℕ) → list_all is_plain w ≡ true → list_all (λ b. is_visible b && not (b == 35)) w ≡ true
seen [] y = refl
seen (b ∷ bs) y =
    let p = and_parts _ _ y in
    and_from _ _ (plain-visible b p.0) (seen bs p.1)

none : (p : ℕ → Bool) → ((b : ℕ) → is_plain b ≡ true → p b ≡ false) → (w : List ℕ) → list_all is_plain w ≡ true → list_any p w ≡ false
none p h [] y = refl
none p h (b ∷ bs) y =
    let q = and_parts _ _ y in
    or_from _ _ (h b q.0) (none p h bs q.1)

unbracketed : (w : List ℕ) → list_all is_plain w ≡ true → is_bracketed w ≡ false
unbracketed [] y = refl
unbracketed (b ∷ bs) y =
    let p = (and_parts _ _ y).0 in
    rw (other 40 b refl p, other 123 b refl p, other 33 b refl p) refl

first_other : (c : ℕ) → is_plain c ≡ false → (w : List ℕ) → list_all is_plain w ≡ true → begins_with c w ≡ false
first_other c n [] y = refl
first_other c n (b ∷ bs) y = and_right _ _ (other c b n (and_parts _ _ y).0)

plain-at : (w : List ℕ) (i : ℕ) → i < length w → list_all is_plain w ≡ true → is_plain (get_or w i 0) ≡ true
plain-at [] i low y = absurd (omega arith)
plain-at (b ∷ bs) zero low y = (and_parts _ _ y).0
plain-at (b ∷ bs) (suc i) low y = plain-at bs i (omega arith) (and_parts _ _ y).1

last_other : (c : ℕ) → is_plain c ≡ false → (w : List ℕ) → list_all is_plain w ≡ true → ends_with c w ≡ false
last_other c n [] y = refl
last_other c n (b ∷ bs) y =
    and_right _ _ (other c (get_or (b ∷ bs) (length (b ∷ bs) - 1) 0) n (plain-at (b ∷ bs) (length (b ∷ bs) - 1) (omega arith) y))

word_other : (u : List ℕ) → list_all is_plain u ≡ false → (w : List ℕ) → list_all is_plain w ≡ true → same_word w u ≡ false
word_other u n w y =
    false_from_ne_true (same_word w u) (λ e. false≢true (sym n ∙ (ap (list_all is_plain) (sym (same_word_is w u e)) ∙ y)))

-- ---- lawful names

-- some plain bytes
pub record IsPlainName (w : List ℕ) : Type 0 where
  pub some : 0 < length w
  pub plain : list_all is_plain w ≡ true

pub word-from_plain : (w : List ℕ) → IsPlainName w → is_word w ≡ true
unfolding is_word
word-from_plain w h =
    and_from _ _ (and_from _ _ (lt-ltb 0 (length w) h.some) (seen w h.plain)) (not_from_false _ (unbracketed w h.plain))

pub net_name-from_plain : (w : List ℕ) → IsPlainName w → is_net_name w ≡ true
unfolding is_net_name
net_name-from_plain w h =
    rw (word-from_plain w h, word_other (codes "->") refl w h.plain, first_other 46 refl w h.plain, none (λ b. b == 44) (λ b p. other 44 b refl p) w h.plain, last_other 92 refl w h.plain) refl

bracketless : (b : ℕ) → is_plain b ≡ true → ((b == 40) || (b == 41) || (b == 123) || (b == 125)) ≡ false
bracketless b p = rw (other 40 b refl p, other 41 b refl p, other 123 b refl p, other 125 b refl p) refl

pub value_name-from_plain : (w : List ℕ) → IsPlainName w → is_value_name w ≡ true
unfolding is_value_name
value_name-from_plain w h =
    rw (net_name-from_plain w h, word_other (codes "-") refl w h.plain, first_other 33 refl w h.plain, first_other 61 refl w h.plain, none (λ b. (b == 40) || (b == 41) || (b == 123) || (b == 125)) bracketless w h.plain) refl

-- ---- numbers

digit-plain : (d : ℕ) → d < 10 → is_plain (48 + d) ≡ true
digit-plain d small = grind (arith, nat_tests)

decimal-plain : (n : ℕ) → n < 2 ^ 64 → list_all is_plain (decimal n) ≡ true
decimal-plain =
    decimal_by_steps (λ m ds. list_all is_plain ds ≡ true)
    (λ m small. and_from _ _ (digit-plain m small) refl)
    (λ m ds large h. list_all-append is_plain ds ((48 + m % 10) ∷ []) ∙ and_from _ _ h (and_from _ _ (digit-plain (m % 10) (omega arith)) refl))

pub IsPlainName-decimal : (n : ℕ) → n < 2 ^ 64 → IsPlainName (decimal n)
IsPlainName-decimal n small =
    record {
      some = decimal_nonempty n small;
      plain = decimal-plain n small;
    }

-- a number behind a few plain bytes
pub IsPlainName-numbered : (front : List ℕ) (n : ℕ) → n < 2 ^ 64 → list_all is_plain front ≡ true → IsPlainName (front ++ decimal n)
IsPlainName-numbered front n small plain =
    let size = length-append front (decimal n) in
    let some = decimal_nonempty n small in
    record {
      some = omega arith;
      plain = list_all-append is_plain front (decimal n) ∙ and_from _ _ plain (decimal-plain n small);
    }

-- a number is a lawful name of a value
pub decimal-value_name : (n : ℕ) → n < 2 ^ 64 → is_value_name (decimal n) ≡ true
decimal-value_name n small = value_name-from_plain (decimal n) (IsPlainName-decimal n small)

pub numbered-net_name : (front : List ℕ) (n : ℕ) → n < 2 ^ 64 → list_all is_plain front ≡ true → is_net_name (front ++ decimal n) ≡ true
numbered-net_name front n small plain = net_name-from_plain (front ++ decimal n) (IsPlainName-numbered front n small plain)

-- ---- the numbers below a count, spelled

numbers_suc : (n : ℕ) → numbers_below (suc n) ≡ numbers_below n ++ decimal n ∷ []
numbers_suc n = let e : suc n ≡ n + 1 = omega arith in ap numbers_below e ∙ numbers_more n

-- none of them is a greater number
new_number : (k n : ℕ) → k ≤ n → n < 2 ^ 64 → among (decimal n) (numbers_below k) ≡ false
new_number zero n le small = refl
new_number (suc k) n le small =
    ap (among (decimal n)) (numbers_suc k)
    ∙ (among-append (decimal n) (numbers_below k) (decimal k ∷ []) ∙ or_from _ _ (new_number k n (omega arith) small) (or_from _ _ differs refl))
  where
    differs : same_word (decimal n) (decimal k) ≡ false
    differs = false_from_ne_true _ (λ e. let same = decimal_injective n k small (omega arith) (same_word_is _ _ e) in omega arith)

pub numbers-differ : (count : ℕ) → count < 2 ^ 64 → names_differ (numbers_below count) ≡ true
numbers-differ zero small = refl
numbers-differ (suc n) small =
    ap names_differ (numbers_suc n)
    ∙ differ-push (numbers_below n) (decimal n) (numbers-differ n (omega arith)) (new_number n n (omega arith) (omega arith))

pub numbers-lawful : (count : ℕ) → count < 2 ^ 64 → list_all is_value_name (numbers_below count) ≡ true
numbers-lawful zero small = refl
numbers-lawful (suc n) small =
    ap (list_all is_value_name) (numbers_suc n)
    ∙ (list_all-append is_value_name (numbers_below n) (decimal n ∷ [])
    ∙ and_from _ _ (numbers-lawful n (omega arith)) (and_from _ _ (decimal-value_name n (omega arith)) refl))
