-- Texts of lines, piece by piece as they are written.
use Rattle.std.proofs.Common.{◌≡◌, ◌∙◌, ℕ, ◌+◌, ◌<◌, ◌≤◌, Option, List, [], ◌∷◌, ◌++◌, length, get_or, drop, map, codes, refl, sym, ap, append_assoc}
use Rattle.std.specs.List.{flat_map}
use Rattle.std.proofs.lemmas.List.{append-nil, at_drop_more, at_drop_all}
use Rattle.std.proofs.lemmas.List.Concat.{flat_map-append}
use Rattle.mv_base.specs.declared.number.NetId.{NetId}
use Rattle.mv_lex.specs.Text.{spaced, line_text}
use Rattle.mv_page.proofs.Items.{items-more}
use Rattle.mv_cover.specs.Literal.{Lit}
use Rattle.mv_cover.specs.declared.line.Line.{Line}
use Rattle.mv_cover.specs.Cubes.{IsCube}
use Rattle.mv_net.specs.declared.parts.FlatNet.{FlatNet}
use Rattle.mv_net.specs.declared.parts.FlatLatch.{FlatLatch}
use Rattle.mv_net.specs.Nets.{slot, name_in, values_in, spelled_in}
use Rattle.mv_text.specs.Text.{entry_word, fanin_word, line_words, names_of, numbers, latch_words}
use Rattle.mv_write.specs.Walk.{first_set, literals_behind, walked, entries_text, AreFaninsOf}
use Rattle.mv_write.proofs.Walks.{walked-is}

-- ---- lines

pub line_text-first : (w : List ℕ) (ws : List (List ℕ)) → line_text (w ∷ ws) ≡ w ++ (spaced ws ++ 10 ∷ [])
unfolding line_text
line_text-first w ws = refl

line_text-more : (w v : List ℕ) (ws : List (List ℕ)) → line_text (w ∷ v ∷ ws) ≡ (w ++ 32 ∷ []) ++ line_text (v ∷ ws)
unfolding line_text spaced
line_text-more w v ws =
    ap (λ t. w ++ 32 ∷ t) (append_assoc v (spaced ws) (10 ∷ [])) ∙ sym (append_assoc w (32 ∷ []) (v ++ (spaced ws ++ 10 ∷ [])))

abbrev before_space : List ℕ → List ℕ
before_space w = w ++ 32 ∷ []

-- a line by its last word, each word before it with a space behind
line_text-last : (ws : List (List ℕ)) (o : List ℕ) → line_text (ws ++ o ∷ []) ≡ flat_map before_space ws ++ (o ++ 10 ∷ [])
unfolding line_text spaced
line_text-last [] o = refl
line_text-last (w ∷ []) o =
    line_text-more w o [] ∙ ap (λ t. t ++ (o ++ 10 ∷ [])) (sym (append-nil (w ++ 32 ∷ [])))
line_text-last (w ∷ v ∷ ws) o =
    line_text-more w v (ws ++ o ∷ []) ∙ (ap (λ t. (w ++ 32 ∷ []) ++ t) (line_text-last (v ∷ ws) o) ∙ sym (append_assoc (w ++ 32 ∷ []) (flat_map before_space (v ∷ ws)) (o ++ 10 ∷ [])))

-- ---- names

pub names-more : (nets : List (Option FlatNet)) (list : List NetId) (i : ℕ) (name : List ℕ) → i < length list → name ≡ name_in (slot nets (get_or list i (record { 0 = 0 })).0) → spaced (names_of nets (drop i list)) ≡ (32 ∷ name) ++ spaced (names_of nets (drop (i + 1) list))
unfolding spaced
names-more nets list i name low is =
    at_drop_more (λ l. spaced (names_of nets l)) list i (record { 0 = 0 }) low ∙ ap (λ w. (32 ∷ w) ++ spaced (names_of nets (drop (i + 1) list))) (sym is)

pub names-none : (nets : List (Option FlatNet)) (list : List NetId) (i : ℕ) → length list ≤ i → spaced (names_of nets (drop i list)) ≡ []
unfolding spaced
names-none nets list i high = at_drop_all (λ l. spaced (names_of nets l)) list i high

pub spaced-append : (vs ws : List (List ℕ)) → spaced (vs ++ ws) ≡ spaced vs ++ spaced ws
unfolding spaced
spaced-append vs ws = flat_map-append (λ w. 32 ∷ w) vs ws

pub head-text : (word : List ℕ) (names : List (List ℕ)) (name : List ℕ) → line_text (word ∷ names ++ codes "->" ∷ name ∷ []) ≡ word ++ (spaced names ++ ((codes " -> " ++ name) ++ 10 ∷ []))
unfolding line_text spaced
head-text word names name =
    let end = codes "->" ∷ name ∷ [] in
    ap (λ t. word ++ (t ++ 10 ∷ [])) (spaced-append names end) ∙ (ap (λ t. word ++ t) (append_assoc (spaced names) (spaced end) (10 ∷ [])) ∙ ap (λ t. word ++ (spaced names ++ ((codes " -> " ++ t) ++ 10 ∷ []))) (append-nil name))

pub root-text : (root : List ℕ) → line_text (codes ".model" ∷ root ∷ []) ≡ (codes ".model " ++ root) ++ 10 ∷ []
unfolding line_text spaced
root-text root = ap (λ t. (codes ".model " ++ t) ++ 10 ∷ []) (append-nil root)

-- ---- declarations

pub spaced-more : (names : List (List ℕ)) (i : ℕ) (name x : List ℕ) → i < length names → x ≡ get_or names i x → name ≡ x → spaced (drop i names) ≡ (32 ∷ name) ++ spaced (drop (i + 1) names)
unfolding spaced
spaced-more names i name x low is same =
    items-more spaced (λ w. 32 ∷ w) names i x (λ w ws. refl) low is ∙ ap (λ w. (32 ∷ w) ++ spaced (drop (i + 1) names)) (sym same)

pub spaced-none : (names : List (List ℕ)) (i : ℕ) → length names ≤ i → spaced (drop i names) ≡ []
unfolding spaced
spaced-none names i high = at_drop_all spaced names i high

pub declaration-text : (name count : List ℕ) (names : List (List ℕ)) → line_text (codes ".mv" ∷ name ∷ count ∷ names) ≡ (codes ".mv " ++ name) ++ ((32 ∷ count) ++ (spaced names ++ 10 ∷ []))
unfolding line_text spaced
declaration-text name count names =
    ap (λ t. codes ".mv " ++ t) (append_assoc name ((32 ∷ count) ++ spaced names) (10 ∷ []) ∙ ap (λ t. name ++ t) (append_assoc (32 ∷ count) (spaced names) (10 ∷ [])))

-- ---- latches

pub latch-text : (nets : List (Option FlatNet)) (l : FlatLatch) (input output : List ℕ) → input ≡ name_in (slot nets l.input.0) → output ≡ name_in (slot nets l.output.0) → line_text (latch_words nets l) ≡ (codes ".latch " ++ input) ++ ((32 ∷ output) ++ 10 ∷ [])
unfolding line_text spaced
latch-text nets l input output i o =
    let from = name_in (slot nets l.input.0) in
    let to = name_in (slot nets l.output.0) in
    let words : line_text (latch_words nets l) ≡ (codes ".latch " ++ from) ++ ((32 ∷ to) ++ 10 ∷ []) = ap (λ t. codes ".latch " ++ t) (append_assoc from ((32 ∷ to) ++ []) (10 ∷ []) ∙ ap (λ t. from ++ 32 ∷ (t ++ 10 ∷ [])) (append-nil to)) in
    words ∙ (λ j. (codes ".latch " ++ sym i j) ++ ((32 ∷ sym o j) ++ 10 ∷ []))

pub latches-more : (nets : List (Option FlatNet)) (ls : List FlatLatch) (i : ℕ) (d : FlatLatch) → i < length ls → flat_map line_text (map (latch_words nets) (drop i ls)) ≡ line_text (latch_words nets (get_or ls i d)) ++ flat_map line_text (map (latch_words nets) (drop (i + 1) ls))
latches-more nets ls i d low = at_drop_more (λ ms. flat_map line_text (map (latch_words nets) ms)) ls i d low

pub latches-none : (nets : List (Option FlatNet)) (ls : List FlatLatch) (i : ℕ) → length ls ≤ i → flat_map line_text (map (latch_words nets) (drop i ls)) ≡ []
latches-none nets ls i high = at_drop_all (λ ms. flat_map line_text (map (latch_words nets) ms)) ls i high

-- ---- rows

pub entries-more : (nets : List (Option FlatNet)) (left rest : List Lit) (fanins : List NetId) (i count set : ℕ) → i < length fanins → count ≡ values_in (slot nets (get_or fanins i (record { 0 = 0 })).0) → set ≡ first_set count left (get_or fanins i (record { 0 = 0 })).0 → rest ≡ literals_behind left (get_or fanins i (record { 0 = 0 })).0
    → entries_text (walked nets left (drop i fanins)) ≡ (entry_word (spelled_in (slot nets (get_or fanins i (record { 0 = 0 })).0)) set ++ 32 ∷ []) ++ entries_text (walked nets rest (drop (i + 1) fanins))
entries-more nets left rest fanins i count set low counted first others =
    let m = (get_or fanins i (record { 0 = 0 })).0 in
    let set_is = ap (λ k. first_set k left m) (sym counted) ∙ sym first in
    let rest_is = sym others in
    at_drop_more (λ l. entries_text (walked nets left l)) fanins i (record { 0 = 0 }) low ∙ (λ j. (entry_word (spelled_in (slot nets m)) (set_is j) ++ 32 ∷ []) ++ entries_text (walked nets (rest_is j) (drop (i + 1) fanins)))

pub entries-none : (nets : List (Option FlatNet)) (left : List Lit) (fanins : List NetId) (i : ℕ) → length fanins ≤ i → entries_text (walked nets left (drop i fanins)) ≡ []
entries-none nets left fanins i high = at_drop_all (λ l. entries_text (walked nets left l)) fanins i high

pub row-text : (nets : List (Option FlatNet)) (values : List (List ℕ)) (line : Line) (fanins : List NetId) (lits : List Lit) → lits ≡ line.cube → IsCube line.cube → AreFaninsOf line.cube fanins
    → line_text (line_words nets values (numbers fanins) line) ≡ entries_text (walked nets lits fanins) ++ (entry_word values line.out ++ 10 ∷ [])
row-text nets values line fanins lits same is near =
    let words : List (List ℕ) = map (fanin_word nets line.cube) (numbers fanins) in
    let met : walked nets lits fanins ≡ words = ap (λ ls. walked nets ls fanins) same ∙ walked-is nets line.cube fanins is.ascending near.ascending near.among in
    line_text-last words (entry_word values line.out) ∙ ap (λ ws. entries_text ws ++ (entry_word values line.out ++ 10 ∷ [])) (sym met)
