-- The entry that is written for a set of values says the set.
use Rattle.std.proofs.Common.{◌≡◌, ◌∙◌, ℕ, ◌<◌, true, false, not, ◌&&◌, List, [], ◌∷◌, length, map, Some, Ok, refl, sym, ap, subst, append-nil}
use Rattle.std.specs.Prelude.{◌==◌, codes, nat_lt}
use Rattle.std.specs.List.{list_all, slice_split}
use Rattle.std.proofs.Math.Bool.{and-false}
use Rattle.std.proofs.lemmas.Bool.{and_parts, cond_both, eqb-true, ltb-true, not-true, not_from_false}
use Rattle.std.proofs.lemmas.List.Folds.{list_all-map}
use Rattle.std.proofs.lemmas.List.Sums.{AllPass-from_list_all}
use Rattle.std.proofs.lemmas.List.Splits.{slice_split_none, slice_split_at}
use Rattle.std.proofs.lemmas.Option.{slice_get-get_or}
use Rattle.mv_base.specs.Names.{begins_with, is_value_name}
use Rattle.mv_base.specs.Set.{empty, one, full, join, Within}
use Rattle.mv_base.proofs.NameLemmas.{place_of-at, IsDistinct-from_differ}
use Rattle.mv_base.proofs.Sets.{join_empty}
use Rattle.mv_base.proofs.Lists.{all-weaker}
use Rattle.mv_word.specs.Entries.{with_item, item_of, items_of, list_of, word_set}
use Rattle.mv_word.proofs.LawfulNames.{ValueName, value_name-has}
use Rattle.mv_word.proofs.Saying.{full-set, named-set, listed-set}
use Rattle.mv_text.specs.Text.{value_at, names_in_set, comma_joined, one_or_list, entry_word}
use Rattle.mv_text_back.proofs.Spelled.{AreSpelled}
use Rattle.mv_text_back.proofs.Members.{members, joined, members-below, members-joined}
use Rattle.mv_decl.proofs.Words.{commaless, no_comma}

pub lawful-at : {count : ℕ} (values : List (List ℕ)) (m : ℕ) → AreSpelled count values → m < length values → ValueName (value_at values m)
lawful-at values m names low = value_name-has _ (AllPass-from_list_all is_value_name values names.lawful m [] low)

-- ---- a list in brackets

-- words without a comma, joined and cut at the commas
split-joined : (w : List ℕ) (ws : List (List ℕ)) → list_all commaless (w ∷ ws) ≡ true → slice_split (λ b. b == 44) (comma_joined (w ∷ ws)) ≡ w ∷ ws
split-joined w [] e =
    let p = and_parts (commaless w) true e in
    ap (slice_split (λ b. b == 44)) (append-nil w) ∙ slice_split_none (λ b. b == 44) w (no_comma w (not-true _ p.0))
split-joined w (v ∷ vs) e =
    let p = and_parts (commaless w) (list_all commaless (v ∷ vs)) e in
    slice_split_at (λ b. b == 44) w 44 (comma_joined (v ∷ vs)) (no_comma w (not-true _ p.0)) refl ∙ ap (λ ps. w ∷ ps) (split-joined v vs p.1)

item-at : {count : ℕ} (values : List (List ℕ)) (m : ℕ) → AreSpelled count values → m < length values → item_of values (value_at values m) ≡ Some (one m)
unfolding item_of
item-at values m names low =
    rw (place_of-at values m (value_at values m) (IsDistinct-from_differ values names.differ) (slice_get-get_or values m [] low)) refl

items-joined : {count : ℕ} (values : List (List ℕ)) (ms : List ℕ) (set : ℕ) → AreSpelled count values → list_all (λ m. nat_lt m (length values)) ms ≡ true → items_of values set (map (value_at values) ms) ≡ Ok (joined set ms)
items-joined values [] set names low = refl
items-joined values (m ∷ ms) set names low =
    let p = and_parts (nat_lt m (length values)) (list_all (λ k. nat_lt k (length values)) ms) low in
    ap (λ o. with_item (value_at values m) o (λ more. items_of values (join set more) (map (value_at values) ms))) (item-at values m names (ltb-true m (length values) p.0))
    ∙ items-joined values ms (join set (one m)) names p.1

-- ---- the entry of a set

by_members : {count : ℕ} (values : List (List ℕ)) (ms : List ℕ) (set : ℕ) → AreSpelled count values → list_all (λ m. nat_lt m (length values)) ms ≡ true → joined empty ms ≡ set → (set ≡ empty → ⊥) → word_set values (one_or_list (map (value_at values) ms)) ≡ Ok set
unfolding list_of
by_members values [] set names low e some = absurd (some (sym e))
by_members values (m ∷ []) set names low e some =
    let below : m < length values = ltb-true m (length values) (and_parts (nat_lt m (length values)) true low).0 in
    let place = place_of-at values m (value_at values m) (IsDistinct-from_differ values names.differ) (slice_get-get_or values m [] below) in
    named-set values (value_at values m) m (lawful-at values m names below) place ∙ ap Ok (sym (join_empty (one m)) ∙ e)
by_members values (m ∷ k ∷ ms) set names low e some =
    let spelled : List (List ℕ) = map (value_at values) (m ∷ k ∷ ms) in
    let commas : list_all commaless spelled ≡ true = list_all-map commaless (value_at values) (m ∷ k ∷ ms) ∙ all-weaker (λ n. nat_lt n (length values)) (λ n. commaless (value_at values n)) (λ n l. not_from_false _ (lawful-at values n names (ltb-true n (length values) l)).net.comma) (m ∷ k ∷ ms) low in
    listed-set values 40 (comma_joined spelled) refl
    ∙ (ap (items_of values empty) (split-joined (value_at values m) (map (value_at values) (k ∷ ms)) commas) ∙ (items-joined values (m ∷ k ∷ ms) empty names low ∙ ap Ok e))

pub entry-set : {count : ℕ} (values : List (List ℕ)) (set : ℕ) → AreSpelled count values → (set ≡ empty → ⊥) → Within set (full count) → word_set values (entry_word values set) ≡ Ok set
unfolding entry_word
entry-set values set names some within =
    let inside : Within set (full (length values)) = subst (λ (n : ℕ). Within set (full n)) (sym names.count) within in
    cond_both (set == full (length values)) (codes "-") (one_or_list (names_in_set values set)) (λ w. word_set values w ≡ Ok set)
    (λ y. full-set values ∙ ap Ok (sym (eqb-true set (full (length values)) y)))
    (λ _. by_members values (members (length values) set) set names (members-below (length values) set) (members-joined (length values) set inside) some)

-- ---- its first byte

first-member : (c : ℕ) (values : List (List ℕ)) (ms : List ℕ) → (40 == c) ≡ false → list_all (λ w. not (begins_with c w)) values ≡ true → list_all (λ m. nat_lt m (length values)) ms ≡ true → begins_with c (one_or_list (map (value_at values) ms)) ≡ false
first-member c values [] bracket names low = bracket
first-member c values (m ∷ []) bracket names low =
    not-true _ (AllPass-from_list_all (λ w. not (begins_with c w)) values names m [] (ltb-true m (length values) (and_parts (nat_lt m (length values)) true low).0))
first-member c values (m ∷ k ∷ ms) bracket names low = ap (λ b. nat_lt 0 (length (one_or_list (map (value_at values) (m ∷ k ∷ ms)))) && b) bracket ∙ and-false (nat_lt 0 (length (one_or_list (map (value_at values) (m ∷ k ∷ ms)))))

-- it begins with a hyphen, a bracket, or as a name does
pub entry-begins : (c : ℕ) (values : List (List ℕ)) (set : ℕ) → (45 == c) ≡ false → (40 == c) ≡ false → list_all (λ w. not (begins_with c w)) values ≡ true → begins_with c (entry_word values set) ≡ false
unfolding entry_word
entry-begins c values set hyphen bracket names =
    cond_both (set == full (length values)) (codes "-") (one_or_list (names_in_set values set)) (λ w. begins_with c w ≡ false)
    (λ _. hyphen)
    (λ _. first-member c values (members (length values) set) bracket names (members-below (length values) set))

-- neither with a full stop nor with `=`
pub entry-stop : {count : ℕ} (values : List (List ℕ)) (set : ℕ) → AreSpelled count values → begins_with 46 (entry_word values set) ≡ false
entry-stop values set names =
    entry-begins 46 values set refl refl (all-weaker is_value_name (λ w. not (begins_with 46 w)) (λ w e. not_from_false _ (value_name-has w e).net.stop) values names.lawful)

pub entry-equal : {count : ℕ} (values : List (List ℕ)) (set : ℕ) → AreSpelled count values → begins_with 61 (entry_word values set) ≡ false
entry-equal values set names =
    entry-begins 61 values set refl refl (all-weaker is_value_name (λ w. not (begins_with 61 w)) (λ w e. not_from_false _ (value_name-has w e).equal) values names.lawful)
