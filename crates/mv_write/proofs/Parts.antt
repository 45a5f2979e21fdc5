-- Texts of declarations, tables and networks, piece by piece as they are written.
use Rattle.std.proofs.Common.{◌≡◌, ◌∙◌, ℕ, ◌+◌, ◌<◌, ◌≤◌, false, is_some, Option, Some, None, List, [], ◌∷◌, ◌++◌, length, drop, map, codes, refl, sym, ap, append_assoc}
use Rattle.std.specs.List.{flat_map}
use Rattle.std.proofs.lemmas.Bool.{false≢true}
use Rattle.std.proofs.lemmas.List.{append-nil, at_drop_more, at_drop_all}
use Rattle.std.proofs.lemmas.List.Concat.{flat_map-append}
use Rattle.std.proofs.lemmas.List.Folds.{flat_map-map}
use Rattle.mv_base.specs.declared.number.NetId.{NetId}
use Rattle.mv_lex.specs.Text.{spaced, line_text}
use Rattle.mv_cover.specs.declared.line.Line.{Line}
use Rattle.mv_cover.specs.declared.cover.Cover.{Cover}
use Rattle.mv_net.specs.declared.parts.FlatNet.{FlatNet}
use Rattle.mv_net.specs.declared.parts.NetParts.{NetParts}
use Rattle.mv_net.specs.Nets.{slot, name_in, table_in, spelled_in}
use Rattle.mv_text.specs.Text.{entry_word, fanins_of, line_words, default_words, cover_words, table_words, net_words, decl_words, names_of, inner_lines, net_lines, text_of, numbers, head_word, told_name, latch_words}
use Rattle.mv_write.specs.Opened.{ports_text, unopened}
use Rattle.mv_write.proofs.Lines.{root-text}

-- ---- lines of all nets, by number

pub nets-more : (each : Option FlatNet → List (List (List ℕ))) (nets : List (Option FlatNet)) (i : ℕ) → i < length nets → flat_map line_text (flat_map each (drop i nets)) ≡ flat_map line_text (each (slot nets i)) ++ flat_map line_text (flat_map each (drop (i + 1) nets))
nets-more each nets i low =
    at_drop_more (λ l. flat_map line_text (flat_map each l)) nets i None low ∙ flat_map-append line_text (each (slot nets i)) (flat_map each (drop (i + 1) nets))

pub nets-none : (each : Option FlatNet → List (List (List ℕ))) (nets : List (Option FlatNet)) (i : ℕ) → length nets ≤ i → flat_map line_text (flat_map each (drop i nets)) ≡ []
nets-none each nets i high = at_drop_all (λ l. flat_map line_text (flat_map each l)) nets i high

-- a number that isn't held has no lines
pub unheld-text : (each : Option FlatNet → List (List (List ℕ))) (f : Option FlatNet) → each None ≡ [] → is_some f ≡ false → flat_map line_text (each f) ≡ []
unheld-text each None none h = ap (flat_map line_text) none
unheld-text each (Some f) none h = absurd (false≢true (sym h))

-- ---- tables

pub default-text : (values : List (List ℕ)) (default : Option ℕ) (set : ℕ) → default ≡ Some set → flat_map line_text (default_words values default) ≡ codes ".default " ++ (entry_word values set ++ 10 ∷ [])
unfolding line_text spaced
default-text values default set e =
    let word = entry_word values set in
    ap (λ d. flat_map line_text (default_words values d)) e ∙ (append-nil (line_text (codes ".default" ∷ word ∷ [])) ∙ ap (λ t. codes ".default " ++ (t ++ 10 ∷ [])) (append-nil word))

pub names-numbers : (nets : List (Option FlatNet)) (ns : List NetId) → map (λ m. name_in (slot nets m)) (numbers ns) ≡ names_of nets ns
names-numbers nets [] = refl
names-numbers nets (n ∷ ns) = ap (λ ws. name_in (slot nets n.0) ∷ ws) (names-numbers nets ns)

pub table-text : (nets : List (Option FlatNet)) (f : Option FlatNet) (c : Cover) (fanins : List NetId) (word name : List ℕ) (lines : List Line) → table_in f ≡ Some c → numbers fanins ≡ fanins_of (length nets) c → word ≡ head_word f → name ≡ told_name f → lines ≡ c.lines
    → flat_map line_text (net_words nets f) ≡ line_text (word ∷ names_of nets fanins ++ codes "->" ∷ name ∷ []) ++ (flat_map line_text (default_words (spelled_in f) c.default) ++ flat_map (λ l. line_text (line_words nets (spelled_in f) (numbers fanins) l)) lines)
table-text nets f c fanins word name lines table ns begun told same =
    let values = spelled_in f in
    let default = default_words values c.default in
    let words : Line → List (List ℕ) = line_words nets values (numbers fanins) in
    let rows : flat_map line_text (map words c.lines) ≡ flat_map (λ l. line_text (words l)) lines = flat_map-map line_text words c.lines ∙ ap (flat_map (λ l. line_text (words l))) (sym same) in
    let behind = flat_map-append line_text default (map words c.lines) ∙ ap (λ t. flat_map line_text default ++ t) rows in
    ap (λ t. flat_map line_text (table_words nets (head_word f) t values (told_name f))) table
    ∙ (ap (λ fs. flat_map line_text (cover_words nets (head_word f) values (told_name f) fs c)) (sym ns)
    ∙ (λ j. line_text (sym begun j ∷ names-numbers nets fanins j ++ codes "->" ∷ sym told j ∷ []) ++ behind j))

-- a net without a table has no lines of one
pub no_table-text : (nets : List (Option FlatNet)) (f : Option FlatNet) → table_in f ≡ None → flat_map line_text (net_words nets f) ≡ []
no_table-text nets f e = ap (λ t. flat_map line_text (table_words nets (head_word f) t (spelled_in f) (told_name f))) e

-- ---- the whole

pub inner-text : (net : NetParts) → flat_map line_text (inner_lines net) ≡ flat_map line_text (flat_map decl_words net.nets) ++ (flat_map line_text (map (latch_words net.nets) net.latches) ++ flat_map line_text (flat_map (net_words net.nets) net.nets))
inner-text net =
    let decls = flat_map decl_words net.nets in
    let latches = map (latch_words net.nets) net.latches in
    let tables = flat_map (net_words net.nets) net.nets in
    flat_map-append line_text decls (latches ++ tables) ∙ ap (λ t. flat_map line_text decls ++ t) (flat_map-append line_text latches tables)

-- the lines of the root, the inputs and the outputs, as they are written
pub ports-text : (net : NetParts) (root : List ℕ) (inputs outputs : List NetId) → root ≡ net.root → inputs ≡ net.inputs → outputs ≡ net.outputs
    → ports_text net ≡ (root ++ 10 ∷ []) ++ (line_text (codes ".inputs" ∷ names_of net.nets inputs) ++ line_text (codes ".outputs" ∷ names_of net.nets outputs))
unfolding ports_text
ports-text net root inputs outputs r i o =
    λ j. (sym r j ++ 10 ∷ []) ++ (line_text (codes ".inputs" ∷ names_of net.nets (sym i j)) ++ line_text (codes ".outputs" ∷ names_of net.nets (sym o j)))

-- the text of lines that begin with these, behind the first word
pub opened-lines : (net : NetParts) (inner : List (List (List ℕ)))
    → flat_map line_text ((codes ".model" ∷ net.root ∷ []) ∷ (codes ".inputs" ∷ names_of net.nets net.inputs) ∷ (codes ".outputs" ∷ names_of net.nets net.outputs) ∷ (inner ++ (codes ".end" ∷ []) ∷ [])) ≡ codes ".model " ++ unopened net inner
unfolding line_text spaced ports_text
opened-lines net inner =
    let inputs = line_text (codes ".inputs" ∷ names_of net.nets net.inputs) in
    let outputs = line_text (codes ".outputs" ∷ names_of net.nets net.outputs) in
    let end : List ℕ = flat_map line_text inner ++ codes ".end\n" in
    let root : List ℕ = net.root ++ 10 ∷ [] in
    ap (λ t. line_text (codes ".model" ∷ net.root ∷ []) ++ (inputs ++ (outputs ++ t))) (flat_map-append line_text inner ((codes ".end" ∷ []) ∷ []))
    ∙ (ap (λ t. t ++ (inputs ++ (outputs ++ end))) (root-text net.root)
    ∙ ap (λ t. codes ".model " ++ t) (ap (λ t. root ++ t) (sym (append_assoc inputs outputs end)) ∙ sym (append_assoc root (inputs ++ outputs) end)))

pub opened-text : (net : NetParts) → text_of net ≡ codes ".model " ++ unopened net (inner_lines net)
unfolding text_of net_lines
opened-text net = opened-lines net (inner_lines net)
