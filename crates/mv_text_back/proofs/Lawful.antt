-- Lawful names, and the entries that are made of the names of values, are written words.
use Rattle.std.proofs.Common.{◌≡◌, ℕ, true, false, not, ◌||◌, ◌==◌, List, [], ◌∷◌, length, codes, refl, ◌∙◌, arith}
use Rattle.std.specs.Prelude.{filter}
use Rattle.std.specs.List.{list_all, list_any, flat_map, range_with_len}
use Rattle.std.proofs.lemmas.Bool.{cond_both, and_parts, and_from, or_parts, ne_eqb, not_from_false}
use Rattle.std.proofs.lemmas.List.Folds.{list_all-append, list_all-map}
use Rattle.std.proofs.lemmas.List.Sums.{AllPass-from_list_all}
use Rattle.mv_base.specs.Names.{is_bracketed, ends_with, is_net_name, is_value_name}
use Rattle.mv_base.specs.Set.{has, full}
use Rattle.mv_text.specs.Text.{value_at, names_in_set, with_comma, comma_joined, one_or_list, entry_word}
use Rattle.mv_word.proofs.LawfulNames.{is_bracket, NetName, net_name-has, value_name-has}
use Rattle.mv_text_back.proofs.Passes.{picked-pass}
use Rattle.mv_lines_back.specs.TextWords.{is_word_byte, is_written_word}
use Rattle.mv_lines_back.proofs.Lists.{plain-written, is_list_byte, list-written}

-- ---- names

name-written : (w : List ℕ) → NetName w → is_written_word w ≡ true
name-written w is =
    let some : not (length w == 0) ≡ true = not_from_false (length w == 0) (ne_eqb (length w) 0 (λ z. omega (arith, is.some))) in
    plain-written w (and_from _ _ (and_from _ _ (and_from _ _ some is.bytes) (not_from_false (is_bracketed w) is.unbracketed)) (not_from_false (ends_with 92 w) is.ends))

pub net_name-written : (w : List ℕ) → is_net_name w ≡ true → is_written_word w ≡ true
net_name-written w h = name-written w (net_name-has w h)

-- a byte of a name of a value may stand in a list
list_bytes : (w : List ℕ) → list_all is_word_byte w ≡ true → list_any is_bracket w ≡ false → list_all is_list_byte w ≡ true
list_bytes [] h n = refl
list_bytes (b ∷ w) h n =
    let both = and_parts (is_word_byte b) (list_all is_word_byte w) h in
    let none = or_parts (is_bracket b) (list_any is_bracket w) n in
    let curly = or_parts ((b == 40) || (b == 41) || (b == 123)) (b == 125) none.0 in
    let round = or_parts ((b == 40) || (b == 41)) (b == 123) curly.0 in
    let other = (or_parts (b == 40) (b == 41) round.0).1 in
    and_from (is_list_byte b) (list_all is_list_byte w) (and_from (is_word_byte b) _ both.0 (not_from_false (b == 41) other)) (list_bytes w both.1 none.1)

value_bytes : (w : List ℕ) → is_value_name w ≡ true → list_all is_list_byte w ≡ true
value_bytes w h =
    let name = value_name-has w h in
    list_bytes w name.net.bytes name.bracket

pub value_name-written : (w : List ℕ) → is_value_name w ≡ true → is_written_word w ≡ true
value_name-written w h = name-written w (value_name-has w h).net

pub value_names-written : (ws : List (List ℕ)) → list_all is_value_name ws ≡ true → list_all is_written_word ws ≡ true
value_names-written [] h = refl
value_names-written (w ∷ ws) h =
    let both = and_parts (is_value_name w) (list_all is_value_name ws) h in
    and_from (is_written_word w) _ (value_name-written w both.0) (value_names-written ws both.1)

-- ---- lists of names of values

with_comma_bytes : (ws : List (List ℕ)) → list_all is_value_name ws ≡ true → list_all is_list_byte (flat_map with_comma ws) ≡ true
with_comma_bytes [] h = refl
with_comma_bytes (w ∷ ws) h =
    let both = and_parts (is_value_name w) (list_all is_value_name ws) h in
    list_all-append is_list_byte w (flat_map with_comma ws) ∙ and_from (list_all is_list_byte w) _ (value_bytes w both.0) (with_comma_bytes ws both.1)

comma_joined_bytes : (ws : List (List ℕ)) → list_all is_value_name ws ≡ true → list_all is_list_byte (comma_joined ws) ≡ true
comma_joined_bytes [] h = refl
comma_joined_bytes (w ∷ ws) h = with_comma_bytes (w ∷ ws) h

one_or_list-written : (ws : List (List ℕ)) → list_all is_value_name ws ≡ true → is_written_word (one_or_list ws) ≡ true
unfolding is_written_word
one_or_list-written [] h = refl
one_or_list-written (w ∷ []) h = value_name-written w (and_parts (is_value_name w) true h).0
one_or_list-written (w ∷ v ∷ ws) h =
    list-written (comma_joined (w ∷ v ∷ ws)) (comma_joined_bytes (w ∷ v ∷ ws) h)

-- ---- entries

set_names : (values : List (List ℕ)) (set : ℕ) → list_all is_value_name values ≡ true → list_all is_value_name (names_in_set values set) ≡ true
set_names values set h =
    list_all-map is_value_name (value_at values) (filter (λ v. has set v) (range_with_len 0 (length values)))
    ∙ picked-pass (λ v. has set v) (λ v. is_value_name (value_at values v)) 0 (length values) (length values) (omega arith) (λ v low member. AllPass-from_list_all is_value_name values h v [] low)

-- the entry of any set
pub entry-written : (values : List (List ℕ)) (set : ℕ) → list_all is_value_name values ≡ true → is_written_word (entry_word values set) ≡ true
unfolding entry_word
entry-written values set h =
    cond_both (set == full (length values)) _ _ (λ w. is_written_word w ≡ true) (λ y. plain-written (codes "-") refl) (λ n. one_or_list-written (names_in_set values set) (set_names values set h))
