-- The word of a set is a word of a text, and isn't long.
use Rattle.std.proofs.Common.{◌≡◌, ℕ, ◌*◌, ◌^◌, ◌<◌, ◌≤◌, true, false, List, [], ◌∷◌, ◌++◌, length, Some, codes, decimal, refl, ap, sym, ◌∙◌, arith, length-append}
use Rattle.std.specs.Prelude.{nat_lt}
use Rattle.std.specs.List.{flat_map, list_all}
use Rattle.std.proofs.lemmas.Bool.{and_parts, and_from, ltb-true, le-ltb, cond_both}
use Rattle.std.proofs.lemmas.List.Folds.{list_all-append}
use Rattle.mv_base.specs.Names.{is_bracketed}
use Rattle.mv_base.specs.declared.limits.TheConstants.{MAX_VALUES, MAX_WORD_BYTES, MAX_BRACKETED_BYTES}
use Rattle.mv_lex.specs.Words.{is_long}
use Rattle.mv_entry.specs.Entries.{members, with_comma, values_word, set_word}
use Rattle.mv_step.specs.Sets.{number_below, value_said, set_said}
use Rattle.mv_step.specs.Printed.{IsSayable}
use Rattle.mv_step.proofs.Written.{set_said-set_word}
use Rattle.mv_lines_back.specs.TextWords.{is_written_word}
use Rattle.mv_lines_back.proofs.Lists.{plain-written, list-written, is_list_byte}
use Rattle.mv_entries_back.proofs.Decimals.{decimal_plain, decimal_listed, value_short}
use Rattle.mv_entries_back.proofs.Members.{members_small, members_few}

-- values that a net may have
abbrev AreValues : List ℕ → Type 0
AreValues vs = list_all (λ v. nat_lt v MAX_VALUES) vs ≡ true

value_low : (v : ℕ) (vs : List ℕ) → AreValues (v ∷ vs) → v < MAX_VALUES
value_low v vs h = ltb-true v MAX_VALUES (and_parts (nat_lt v MAX_VALUES) (list_all (λ v. nat_lt v MAX_VALUES) vs) h).0

values_low : (v : ℕ) (vs : List ℕ) → AreValues (v ∷ vs) → AreValues vs
values_low v vs h = (and_parts (nat_lt v MAX_VALUES) (list_all (λ v. nat_lt v MAX_VALUES) vs) h).1

wide : (v : ℕ) → v < MAX_VALUES → v < 10 ^ 64
wide v low = omega arith

-- ---- between the brackets

-- values parted by commas
abbrev listed : ℕ → List ℕ → List ℕ
listed v vs = decimal v ++ flat_map with_comma vs

listed-bytes : (vs : List ℕ) → AreValues vs → list_all is_list_byte (flat_map with_comma vs) ≡ true
listed-bytes [] h = refl
listed-bytes (v ∷ vs) h =
    list_all-append is_list_byte (decimal v) (flat_map with_comma vs) ∙ and_from (list_all is_list_byte (decimal v)) _ (decimal_listed v (wide v (value_low v vs h))) (listed-bytes vs (values_low v vs h))

-- at most five bytes a value
listed-short : (vs : List ℕ) → AreValues vs → length (flat_map with_comma vs) ≤ 5 * length vs
listed-short [] h = omega arith
listed-short (v ∷ vs) h =
    let short = value_short v (value_low v vs h) in
    let rest = listed-short vs (values_low v vs h) in
    let all = length-append (decimal v) (flat_map with_comma vs) in
    omega (arith, short, rest, all)

-- ---- the word

-- a word of a text that isn't too long
pub record IsSetWord (w : List ℕ) : Type 0 where
  pub written : is_written_word w ≡ true
  pub short : is_long w ≡ false

-- a plain word is as short as it has to be, and so is one in brackets
pub short_word : (w : List ℕ) → length w ≤ MAX_WORD_BYTES → is_long w ≡ false
short_word w few =
    let P : ℕ → Type 0 = λ most. nat_lt most (length w) ≡ false in
    cond_both (is_bracketed w) MAX_BRACKETED_BYTES MAX_WORD_BYTES P (λ b. le-ltb MAX_BRACKETED_BYTES (length w) (omega arith)) (λ p. le-ltb MAX_WORD_BYTES (length w) few)

short_list : (bs : List ℕ) → length (40 ∷ bs) ≤ MAX_BRACKETED_BYTES → is_long (40 ∷ bs) ≡ false
short_list bs few = le-ltb MAX_BRACKETED_BYTES (length (40 ∷ bs)) few

single : (v : ℕ) → v < MAX_VALUES → IsSetWord (decimal v)
single v low = record {
  written = plain-written (decimal v) (decimal_plain v (wide v low));
  short = let s = value_short v low in short_word (decimal v) (omega (arith, s));
}

several : (v w : ℕ) (ws : List ℕ) → AreValues (v ∷ w ∷ ws) → length (v ∷ w ∷ ws) ≤ MAX_VALUES → IsSetWord (values_word (v ∷ w ∷ ws))
several v w ws h few =
    let bs = listed v (w ∷ ws) in
    let bytes = list_all-append is_list_byte (decimal v) (flat_map with_comma (w ∷ ws)) ∙ and_from _ _ (decimal_listed v (wide v (value_low v (w ∷ ws) h))) (listed-bytes (w ∷ ws) (values_low v (w ∷ ws) h)) in
    let size = length-append bs (41 ∷ []) in
    let size_of = length-append (decimal v) (flat_map with_comma (w ∷ ws)) in
    let first = value_short v (value_low v (w ∷ ws) h) in
    let rest = listed-short (w ∷ ws) (values_low v (w ∷ ws) h) in
    record {
      written = list-written bs bytes;
      short = short_list (bs ++ 41 ∷ []) (omega (arith, size, size_of, first, rest, few));
    }

values-word : (vs : List ℕ) → AreValues vs → length vs ≤ MAX_VALUES → (vs ≡ [] → ⊥) → IsSetWord (values_word vs)
values-word [] h few some = absurd (some refl)
values-word (v ∷ []) h few some = single v (value_low v [] h)
values-word (v ∷ w ∷ ws) h few some = several v w ws h few

-- `()` says no set
none_said : (set : ℕ) → set_said (codes "()") ≡ Some set → ⊥
unfolding set_said value_said number_below
none_said set e = cc

pub set-word : (set : ℕ) → IsSayable set → IsSetWord (set_word set)
unfolding set_word
set-word set h =
    let some : members set ≡ [] → ⊥ = λ e. none_said set (ap (λ vs. set_said (values_word vs)) (sym e) ∙ set_said-set_word set h) in
    values-word (members set) (members_small set) (members_few set) some
