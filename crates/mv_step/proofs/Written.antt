-- The words of a set and of a line, as they are printed, read back as that set and that line.
use Rattle.std.proofs.Common.{◌≡◌, ◌∙◌, ℕ, ◌-◌, ◌^◌, ◌<◌, ◌≤◌, Bool, true, false, not, ◌&&◌, ◌||◌, ◌==◌, Some, List, [], ◌∷◌, ◌++◌, length, get_or, take, map, filter, codes, decimal, refl, sym, ap, append-nil, arith, inl, inr}
use Rattle.std.specs.Prelude.{nat_lt, slice_range}
use Rattle.std.specs.Char.{is_ascii_digit}
use Rattle.std.specs.List.{list_all, list_any, flat_map, slice_split, range_with_len, All}
use Rattle.std.specs.Str.Parse.{digits_value}
use Rattle.std.proofs.Math.Bool.{and-false}
use Rattle.std.proofs.Math.Seq.{get_or-append_seam, take-append_seam}
use Rattle.std.proofs.lemmas.Bool.{cases_Bool, le-leb, and_from, and_parts, and_left, and_right}
use Rattle.std.proofs.lemmas.Bool.Decides.{nat_tests, Decides-ltb, Decides-eqb}
use Rattle.std.proofs.lemmas.Fmt.{digits_decimal, digits_value-decimal, decimal_nonempty, length-decimal-le}
use Rattle.std.proofs.lemmas.List.{length-append, length-map}
use Rattle.std.proofs.lemmas.List.Elements.{All-head, All-tail}
use Rattle.std.proofs.lemmas.List.Folds.{list_any_at}
use Rattle.std.proofs.lemmas.List.FromFn.{length-range_with_len, get_or-range_with_len}
use Rattle.mv_base.specs.Set.{has, empty, one, join}
use Rattle.mv_base.specs.declared.limits.TheConstants.{MAX_VALUES}
use Rattle.mv_base.proofs.Lists.{all-weaker}
use Rattle.mv_base.proofs.Sets.{has-join, has-empty, has-one, same_set}
use Rattle.mv_lex.proofs.Cuts.{split_all, split-first, closed-none, open_piece-none}
use Rattle.mv_entry.specs.declared.rule.BodyLit.{BodyLit}
use Rattle.mv_entry.specs.declared.rule.Code.{Code}
use Rattle.mv_entry.specs.Entries.{bit_byte, code_word, members_below, members, with_comma, values_word, set_word, lit_words}
use Rattle.mv_step.specs.Sets.{is_number, number_below, number_said, value_said, with_value, values_said, is_comma, is_in_brackets, set_said}
use Rattle.mv_step.specs.Lines.{with_lit, with_out, line_said, is_bit, is_code, are_codes, code_of}
use Rattle.mv_step.specs.Printed.{IsSayable, is_sayable_number, is_sayable_code}
use Rattle.mv_lex.proofs.Digits.{numerals}
use Rattle.mv_step.proofs.Bracketed.{set-bracketed, set-word}

-- ---- values

small_number : (v : ℕ) → v < 65536 → is_number (decimal v) ≡ true
small_number v small =
    let wide : v < 2 ^ 64 = omega arith in
    let some = decimal_nonempty v wide in
    let few = length-decimal-le 5 v (omega arith) (omega arith) wide in
    and_from _ _ (and_from _ _ ((Decides-ltb 0 (length (decimal v))).1 some) (le-leb (length (decimal v)) 5 (omega arith))) (digits_decimal numerals v wide)

number_below-decimal : (end v : ℕ) → end ≤ 65536 → v < end → number_below end (decimal v) ≡ Some v
unfolding number_below
number_below-decimal end v few small =
    let value : digits_value 10 (decimal v) ≡ v = digits_value-decimal numerals v (omega arith) in
    let below : nat_lt (digits_value 10 (decimal v)) end ≡ true = ap (λ n. nat_lt n end) value ∙ (Decides-ltb v end).1 small in
    let test : (is_number (decimal v) && nat_lt (digits_value 10 (decimal v)) end) ≡ true = and_from _ _ (small_number v (omega arith)) below in
    rw test (ap Some value)

value_said-decimal : (v : ℕ) → v < MAX_VALUES → value_said (decimal v) ≡ Some v
unfolding value_said
value_said-decimal v small = number_below-decimal MAX_VALUES v (omega arith) small

pub number_said-decimal : (n : ℕ) → is_sayable_number n ≡ true → number_said (decimal n) ≡ Some n
unfolding number_said
number_said-decimal n h = number_below-decimal 65536 n (omega arith) ((Decides-ltb n 65536).0 h)

-- the set of these values
abbrev union : List ℕ → ℕ
union [] = empty
union (v ∷ vs) = join (one v) (union vs)

values_said-decimals : (vs : List ℕ) → list_all (λ v. nat_lt v MAX_VALUES) vs ≡ true → values_said (map decimal vs) ≡ Some (union vs)
values_said-decimals [] small = refl
values_said-decimals (v ∷ vs) small =
    let p = and_parts _ _ small in
    ap (λ o. with_value o (values_said (map decimal vs))) (value_said-decimal v ((Decides-ltb v MAX_VALUES).0 p.0)) ∙ ap (with_value (Some v)) (values_said-decimals vs p.1)

-- ---- the members of a set

filter-small : (p q : ℕ → Bool) → ((x : ℕ) → p x ≡ true → q x ≡ true) → (xs : List ℕ) → list_all q (filter p xs) ≡ true
filter-small p q h [] = refl
filter-small p q h (x ∷ xs) =
    elim (cases_Bool (p x)) [
      | inl y ↦ rw y (and_from _ _ (h x y) (filter-small p q h xs))
      | inr n ↦ rw n (filter-small p q h xs)
    ]

gathered : (h e t s : Bool) → (e ≡ true → s ≡ true) → (s && t) ≡ h → (e || h) ≡ (s && (e || t))
gathered h true t true f g = refl
gathered h true t false f g = sym (f refl)
gathered h false t s f g = sym g

passed_over : (h e t s : Bool) → (e ≡ true → s ≡ false) → (s && t) ≡ h → h ≡ (s && (e || t))
passed_over h true t true f g = let e = f refl in cc
passed_over h true t false f g = sym g
passed_over h false t s f g = sym g

-- the union of the members among some numbers
has-union : (s u : ℕ) (xs : List ℕ) → has (union (filter (λ v. has s v) xs)) u ≡ (has s u && list_any (λ v. u == v) xs)
has-union s u [] = has-empty u ∙ sym (and-false (has s u))
has-union s u (x ∷ xs) =
    let rest = union (filter (λ v. has s v) xs) in
    let same : (u == x) ≡ true → has s u ≡ has s x = λ e. ap (has s) ((Decides-eqb u x).0 e) in
    elim (cases_Bool (has s x)) [
      | inl y ↦
          rw y
          (has-join (one x) rest u ∙ ap (λ b. b || has rest u) (has-one x u)
          ∙ gathered (has rest u) (u == x) (list_any (λ v. u == v) xs) (has s u) (λ e. same e ∙ y) (sym (has-union s u xs)))
      | inr n ↦ rw n (passed_over (has rest u) (u == x) (list_any (λ v. u == v) xs) (has s u) (λ e. same e ∙ n) (sym (has-union s u xs)))
    ]

there : (u n : ℕ) → u < n → list_any (λ v. u == v) (range_with_len 0 n) ≡ true
there u n low =
    let size = length-range_with_len 0 n in
    let place = get_or-range_with_len 0 n u 0 low in
    list_any_at (λ v. u == v) (range_with_len 0 n) u 0 (omega (arith, size)) ((Decides-eqb u _).1 (omega (arith, place)))

-- a set is the union of its members
union-members : (s n : ℕ) → ((v : ℕ) → has s v ≡ true → v < n) → union (members_below s n) ≡ s
unfolding members_below
union-members s n below =
    same_set _ _
    (λ u.
    has-union s u (range_with_len 0 n)
    ∙ elim (cases_Bool (has s u)) [ inl y ↦ rw y (there u n (below u y)) | inr m ↦ rw m refl ])

small-members : (s n : ℕ) → ((v : ℕ) → has s v ≡ true → v < n) → list_all (λ v. nat_lt v n) (members_below s n) ≡ true
unfolding members_below
small-members s n below = filter-small (λ v. has s v) (λ v. nat_lt v n) (λ x y. (Decides-ltb x n).1 (below x y)) (range_with_len 0 n)

-- ---- words

digit-no_comma : (b : ℕ) → is_ascii_digit b ≡ true → not (is_comma b) ≡ true
digit-no_comma b y = grind (arith, nat_tests)

digit-no_bracket : (b : ℕ) → is_ascii_digit b ≡ true → (b == 40) ≡ false
digit-no_bracket b y = grind (arith, nat_tests)

digits-alone : (w : List ℕ) → list_all is_ascii_digit w ≡ true → is_in_brackets w ≡ false
digits-alone [] y = refl
digits-alone (b ∷ bs) y = and_left _ _ (and_right _ _ (digit-no_bracket b (and_parts _ _ y).0))

digits-of : (v : ℕ) → nat_lt v MAX_VALUES ≡ true → list_all is_ascii_digit (decimal v) ≡ true
digits-of v small = let low = (Decides-ltb v MAX_VALUES).0 small in digits_decimal numerals v (omega arith)

-- values that commas part
split-values : (v : ℕ) (vs : List ℕ) → list_all (λ u. nat_lt u MAX_VALUES) (v ∷ vs) ≡ true → slice_split is_comma (decimal v ++ flat_map with_comma vs) ≡ map decimal (v ∷ vs)
split-values v [] small =
    let none = all-weaker is_ascii_digit (λ b. not (is_comma b)) digit-no_comma (decimal v) (digits-of v (and_parts _ _ small).0) in
    ap (slice_split is_comma) (append-nil (decimal v)) ∙ split_all is_comma (decimal v)
    ∙ (λ i. closed-none is_comma (decimal v) none i ++ open_piece-none is_comma (decimal v) none i ∷ [])
split-values v (u ∷ us) small =
    let p = and_parts _ _ small in
    let none = all-weaker is_ascii_digit (λ b. not (is_comma b)) digit-no_comma (decimal v) (digits-of v p.0) in
    split-first is_comma (decimal v) 44 (decimal u ++ flat_map with_comma us) none refl ∙ ap (λ ws. decimal v ∷ ws) (split-values u us p.1)

-- a word between brackets
in_brackets : List ℕ → List ℕ
in_brackets text = 40 ∷ (text ++ 41 ∷ [])

in_brackets-is : (text : List ℕ) → is_in_brackets (in_brackets text) ≡ true
unfolding in_brackets
in_brackets-is text =
    let size = length-append text (41 ∷ []) in
    let some : nat_lt 0 (length (in_brackets text)) ≡ true = (Decides-ltb 0 _).1 (omega arith) in
    let last : length (in_brackets text) - 1 ≡ length (40 ∷ text) = omega (arith, size) in
    let ends : get_or (in_brackets text) (length (in_brackets text) - 1) 0 ≡ 41 = ap (λ n. get_or (in_brackets text) n 0) last ∙ get_or-append_seam (40 ∷ text) 41 [] 0 in
    and_from _ _ (and_from _ _ some refl) (and_from _ _ some ((Decides-eqb _ 41).1 ends))

inside-in_brackets : (text : List ℕ) → slice_range (in_brackets text) 1 (length (in_brackets text) - 1) ≡ text
unfolding in_brackets
inside-in_brackets text =
    let size = length-append text (41 ∷ []) in
    let between : length (in_brackets text) - 1 - 1 ≡ length text = omega (arith, size) in
    ap (λ n. take n (text ++ 41 ∷ [])) between ∙ take-append_seam text (41 ∷ [])

word-said : (vs : List ℕ) → (vs ≡ [] → ⊥) → list_all (λ v. nat_lt v MAX_VALUES) vs ≡ true → set_said (values_word vs) ≡ Some (union vs)
unfolding in_brackets
word-said [] some small = absurd (some refl)
word-said (v ∷ []) some small =
    set-word (decimal v) (digits-alone (decimal v) (digits-of v (and_parts _ _ small).0)) ∙ values_said-decimals (v ∷ []) small
word-said (v ∷ u ∷ us) some small =
    let text = decimal v ++ flat_map with_comma (u ∷ us) in
    set-bracketed (in_brackets text) (in_brackets-is text) ∙ ap (λ t. values_said (slice_split is_comma t)) (inside-in_brackets text)
    ∙ ap values_said (split-values v (u ∷ us) small) ∙ values_said-decimals (v ∷ u ∷ us) small

pub set_said-set_word : (set : ℕ) → IsSayable set → set_said (set_word set) ≡ Some set
unfolding set_word
set_said-set_word set h =
    let whole = union-members set MAX_VALUES h.small.below in
    word-said (members set) (λ e. h.some (sym whole ∙ ap union e)) (small-members set MAX_VALUES h.small.below) ∙ ap Some whole

-- ---- lines

line_said-next : (net s : List ℕ) (lits : List BodyLit) (w : List ℕ) (ws : List (List ℕ)) → line_said (net ∷ s ∷ (flat_map lit_words lits ++ w ∷ ws)) ≡ with_lit net (set_said s) (line_said (flat_map lit_words lits ++ w ∷ ws))
line_said-next net s [] w ws = refl
line_said-next net s (l ∷ lits) w ws = refl

-- the words of a line behind its first
pub line_said-words : (lits : List BodyLit) (out : ℕ) → All (λ (m : BodyLit). IsSayable m.set) lits → IsSayable out → line_said (flat_map lit_words lits ++ codes "->" ∷ set_word out ∷ []) ≡ Some (record { lits = lits; out = out })
line_said-words [] out each h = ap with_out (set_said-set_word out h)
line_said-words (l ∷ lits) out each h =
    line_said-next l.net (set_word l.set) lits (codes "->") (set_word out ∷ [])
    ∙ ap (λ s. with_lit l.net s (line_said (flat_map lit_words lits ++ codes "->" ∷ set_word out ∷ []))) (set_said-set_word l.set (All-head (λ (m : BodyLit). IsSayable m.set) l lits each))
    ∙ ap (with_lit l.net (Some l.set)) (line_said-words lits out (All-tail (λ (m : BodyLit). IsSayable m.set) l lits each) h)

-- ---- codes

bits-are : (bits : List Bool) → list_all is_bit (map bit_byte bits) ≡ true
bits-are [] = refl
bits-are (true ∷ bits) = bits-are bits
bits-are (false ∷ bits) = bits-are bits

bits-back : (bits : List Bool) → map (λ b. b == 49) (map bit_byte bits) ≡ bits
bits-back [] = refl
bits-back (true ∷ bits) = ap (λ bs. true ∷ bs) (bits-back bits)
bits-back (false ∷ bits) = ap (λ bs. false ∷ bs) (bits-back bits)

-- the words of codes are codes
pub codes-are : (count : ℕ) (list : List Code) → list_all (is_sayable_code count) list ≡ true → are_codes count (map code_word list) ≡ true
codes-are count [] h = refl
codes-are count (c ∷ cs) h =
    let both = and_parts (is_sayable_code count c) (list_all (is_sayable_code count) cs) h in
    let size = (and_parts (length c.bits == count) (nat_lt 0 count) (and_parts (length c.bits == count && nat_lt 0 count) _ both.0).0).0 in
    let sized = ap (λ n. n == count) (length-map c.bits bit_byte) ∙ size in
    and_from (is_code count (code_word c)) _ (and_from (length (code_word c) == count) _ sized (bits-are c.bits)) (codes-are count cs both.1)

-- and say these codes
pub codes-back : (list : List Code) → map code_of (map code_word list) ≡ list
codes-back [] = refl
codes-back (c ∷ cs) = λ i. record { bits = bits-back c.bits i } ∷ codes-back cs i
