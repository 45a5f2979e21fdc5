-- Texts of lines and entries, piece by piece as they are put.
use Rattle.std.proofs.Common.{◌≡◌, ◌∙◌, ℕ, Bool, false, ◌+◌, ◌<◌, ◌≤◌, Option, Some, None, List, [], ◌∷◌, ◌++◌, length, get_or, drop, map, codes, decimal, refl, ap, append_assoc}
use Rattle.std.specs.List.{flat_map}
use Rattle.std.proofs.lemmas.List.{append-nil, at_drop_all, at_drop_more}
use Rattle.std.proofs.lemmas.List.Concat.{flat_map-append}
use Rattle.mv_base.specs.declared.number.Value.{Value}
use Rattle.mv_lex.specs.Text.{spaced, line_text}
use Rattle.mv_page.proofs.Items.{items-more}
use Rattle.mv_entry.specs.declared.rule.BodyLit.{BodyLit}
use Rattle.mv_entry.specs.declared.rule.BodyLine.{BodyLine}
use Rattle.mv_entry.specs.declared.rule.Body.{Body}
use Rattle.mv_entry.specs.declared.rule.Code.{Code}
use Rattle.mv_entry.specs.declared.rule.Rule.{Rule}
use Rattle.mv_entry.specs.declared.note.Command.{Command}
use Rattle.mv_entry.specs.declared.note.Command.TheVariants.{Simplify, Collapse as CollapseNet}
use Rattle.mv_entry.specs.declared.note.Why.{Why}
use Rattle.mv_entry.specs.declared.note.Why.TheVariants.{Literals}
use Rattle.mv_entry.specs.declared.note.Note.{Note}
use Rattle.mv_entry.specs.declared.note.Note.TheVariants.{Begin, Dropped, End, Done}
use Rattle.mv_entry.specs.Entries.{Applied, Noted, set_word, lit_words, line_words, default_lines, body_lines, into_words, bit_byte, code_word, rule_lines, command_word, operands, why_word, why_numbers, note_words, entry_text}

-- ---- words

pub spaced-none : spaced [] ≡ []
unfolding spaced
spaced-none = refl

pub spaced-one : (w : List ℕ) → spaced (w ∷ []) ≡ 32 ∷ w
unfolding spaced
spaced-one w = append-nil (32 ∷ w)

pub spaced-append : (vs ws : List (List ℕ)) → spaced (vs ++ ws) ≡ spaced vs ++ spaced ws
unfolding spaced
spaced-append vs ws = flat_map-append (λ w. 32 ∷ w) vs ws

pub spaced-then : (vs ws : List (List ℕ)) (rest : List ℕ) → spaced (vs ++ ws) ++ rest ≡ spaced vs ++ (spaced ws ++ rest)
spaced-then vs ws rest = ap (λ t. t ++ rest) (spaced-append vs ws) ∙ append_assoc (spaced vs) (spaced ws) rest

pub line_text-first : (w : List ℕ) (ws : List (List ℕ)) → line_text (w ∷ ws) ≡ w ++ (spaced ws ++ 10 ∷ [])
unfolding line_text
line_text-first w ws = refl

pub line_text-triple : (u v w : List ℕ) → line_text (u ∷ v ∷ w ∷ []) ≡ u ++ (spaced (v ∷ []) ++ (spaced (w ∷ []) ++ 10 ∷ []))
line_text-triple u v w =
    line_text-first u (v ∷ w ∷ []) ∙ ap (λ t. u ++ t) (spaced-then (v ∷ []) (w ∷ []) (10 ∷ []))

-- a line of a word, a name and more words
pub line_text-named : (w net : List ℕ) (ws : List (List ℕ)) → line_text (w ∷ net ∷ ws) ≡ w ++ (spaced (net ∷ []) ++ (spaced ws ++ 10 ∷ []))
line_text-named w net ws = line_text-first w (net ∷ ws) ∙ ap (λ t. w ++ t) (spaced-then (net ∷ []) ws (10 ∷ []))

-- ---- notes

note-text : (note : Note) (w : List ℕ) (ws : List (List ℕ)) → note_words note ≡ w ∷ ws → entry_text (Noted note) ≡ codes "# " ++ (w ++ (spaced ws ++ 10 ∷ []))
unfolding entry_text line_text spaced
note-text note w ws e =
    ap (λ l. flat_map line_text ((codes "#" ∷ l) ∷ [])) e
    ∙ (append-nil (line_text (codes "#" ∷ w ∷ ws)) ∙ ap (λ t. codes "# " ++ t) (append_assoc w (spaced ws) (10 ∷ [])))

pub begin-text : (command : Command) → entry_text (Noted (Begin command)) ≡ codes "# begin" ++ (spaced (command_word command ∷ []) ++ (spaced (operands command) ++ 10 ∷ []))
begin-text command =
    note-text (Begin command) (codes "begin") (command_word command ∷ operands command) refl
    ∙ ap (λ t. codes "# begin" ++ t) (spaced-then (command_word command ∷ []) (operands command) (10 ∷ []))

pub dropped-text : (why : Why) (net : List ℕ) → entry_text (Noted (Dropped why net)) ≡ codes "# note" ++ (spaced (why_word why ∷ []) ++ (spaced (why_numbers why) ++ (spaced (net ∷ []) ++ 10 ∷ [])))
dropped-text why net =
    note-text (Dropped why net) (codes "note") (why_word why ∷ why_numbers why ++ net ∷ []) refl
    ∙ (ap (λ t. codes "# note" ++ t) (spaced-then (why_word why ∷ []) (why_numbers why ++ net ∷ []) (10 ∷ []))
    ∙ ap (λ t. codes "# note" ++ (spaced (why_word why ∷ []) ++ t)) (spaced-then (why_numbers why) (net ∷ []) (10 ∷ [])))

pub end-text : (literals : ℕ) → entry_text (Noted (End literals)) ≡ codes "# end" ++ (spaced (decimal literals ∷ []) ++ 10 ∷ [])
end-text literals = note-text (End literals) (codes "end") (decimal literals ∷ []) refl

pub done-text : (before after : ℕ) → entry_text (Noted (Done before after)) ≡ codes "# done" ++ (spaced (decimal before ∷ decimal after ∷ []) ++ 10 ∷ [])
done-text before after = note-text (Done before after) (codes "done") (decimal before ∷ decimal after ∷ []) refl

pub numbers-text : (first second : ℕ) → spaced (decimal first ∷ decimal second ∷ []) ≡ spaced (decimal first ∷ []) ++ spaced (decimal second ∷ [])
numbers-text first second = spaced-append (decimal first ∷ []) (decimal second ∷ [])

pub operands-none : (command : Command) → ((net : List ℕ) → command ≡ CollapseNet net → ⊥) → ((down up : ℕ) → command ≡ Simplify down up → ⊥) → spaced (operands command) ≡ []
unfolding spaced
operands-none (CollapseNet net) named numbered = absurd (named net refl)
operands-none (Simplify down up) named numbered = absurd (numbered down up refl)
operands-none _ named numbered = refl

pub numbers-none : (why : Why) → ((before after : ℕ) → why ≡ Literals before after → ⊥) → spaced (why_numbers why) ≡ []
unfolding spaced
numbers-none (Literals before after) other = absurd (other before after refl)
numbers-none _ other = refl

-- ---- rules

pub lit-text : (l : BodyLit) → spaced (lit_words l) ≡ spaced (l.net ∷ []) ++ (codes " " ++ set_word l.set)
lit-text l = spaced-append (l.net ∷ []) (set_word l.set ∷ []) ∙ ap (λ t. spaced (l.net ∷ []) ++ t) (spaced-one (set_word l.set))

pub lits-more : (ls : List BodyLit) (i : ℕ) (l : BodyLit) → i < length ls → l ≡ get_or ls i l → spaced (flat_map lit_words (drop i ls)) ≡ spaced (lit_words l) ++ spaced (flat_map lit_words (drop (i + 1) ls))
lits-more ls i l low is =
    items-more (λ ms. spaced (flat_map lit_words ms)) (λ m. spaced (lit_words m)) ls i l (λ m ms. spaced-append (lit_words m) (flat_map lit_words ms)) low is

pub lits-none : (ls : List BodyLit) (i : ℕ) → length ls ≤ i → spaced (flat_map lit_words (drop i ls)) ≡ []
unfolding spaced
lits-none ls i high = at_drop_all (λ ms. spaced (flat_map lit_words ms)) ls i high

pub line-text : (l : BodyLine) → line_text (line_words l) ≡ codes "line" ++ (spaced (flat_map lit_words l.lits) ++ (codes " -> " ++ (set_word l.out ++ 10 ∷ [])))
line-text l =
    let words = flat_map lit_words l.lits in
    let out = set_word l.out in
    line_text-first (codes "line") (words ++ codes "->" ∷ out ∷ [])
    ∙ ap (λ t. codes "line" ++ t) (spaced-then words (codes "->" ∷ out ∷ []) (10 ∷ [])
    ∙ ap (λ t. spaced words ++ t) (spaced-then (codes "->" ∷ []) (out ∷ []) (10 ∷ [])
    ∙ (λ i. spaced-one (codes "->") i ++ (spaced-one out i ++ 10 ∷ []))))

pub lines-more : (ls : List BodyLine) (i : ℕ) (l : BodyLine) → i < length ls → l ≡ get_or ls i l → flat_map line_text (map line_words (drop i ls)) ≡ line_text (line_words l) ++ flat_map line_text (map line_words (drop (i + 1) ls))
lines-more ls i l low is =
    items-more (λ ms. flat_map line_text (map line_words ms)) (λ m. line_text (line_words m)) ls i l (λ m ms. refl) low is

pub lines-none : (ls : List BodyLine) (i : ℕ) → length ls ≤ i → flat_map line_text (map line_words (drop i ls)) ≡ []
lines-none ls i high = at_drop_all (λ ms. flat_map line_text (map line_words ms)) ls i high

pub default-text : (default : Option ℕ) (set : ℕ) → default ≡ Some set → flat_map line_text (default_lines default) ≡ codes "default " ++ (set_word set ++ 10 ∷ [])
default-text default set e =
    ap (λ d. flat_map line_text (default_lines d)) e
    ∙ (append-nil (line_text (codes "default" ∷ set_word set ∷ []))
    ∙ (line_text-first (codes "default") (set_word set ∷ []) ∙ ap (λ t. codes "default" ++ (t ++ 10 ∷ [])) (spaced-one (set_word set))))

pub default-none : (default : Option ℕ) → default ≡ None → flat_map line_text (default_lines default) ≡ []
default-none default e = ap (λ d. flat_map line_text (default_lines d)) e

pub body-text : (b : Body) → flat_map line_text (body_lines b) ≡ flat_map line_text (map line_words b.lines) ++ (flat_map line_text (default_lines b.default) ++ codes "end\n")
unfolding line_text spaced
body-text b =
    let lines = map line_words b.lines in
    let default = default_lines b.default in
    flat_map-append line_text (lines ++ default) ((codes "end" ∷ []) ∷ [])
    ∙ (ap (λ t. t ++ codes "end\n") (flat_map-append line_text lines default) ∙ append_assoc (flat_map line_text lines) (flat_map line_text default) (codes "end\n"))

pub merge-text : (net : List ℕ) (gone : ℕ) (into : Option Value) → line_text (codes "merge" ∷ net ∷ decimal gone ∷ into_words into) ≡ codes "merge" ++ (spaced (net ∷ []) ++ (spaced (decimal gone ∷ []) ++ (spaced (into_words into) ++ 10 ∷ [])))
merge-text net gone into =
    line_text-named (codes "merge") net (decimal gone ∷ into_words into)
    ∙ ap (λ t. codes "merge" ++ (spaced (net ∷ []) ++ t)) (spaced-then (decimal gone ∷ []) (into_words into) (10 ∷ []))

pub fill-text : (net : List ℕ) (out : ℕ) → line_text (codes "fill" ∷ net ∷ set_word out ∷ []) ≡ codes "fill" ++ (spaced (net ∷ []) ++ (codes " " ++ (set_word out ++ 10 ∷ [])))
fill-text net out =
    line_text-named (codes "fill") net (set_word out ∷ []) ∙ ap (λ t. codes "fill" ++ (spaced (net ∷ []) ++ (t ++ 10 ∷ []))) (spaced-one (set_word out))

pub encode-text : (net number : List ℕ) (names list : List (List ℕ)) → line_text (codes "encode" ∷ net ∷ number ∷ names ++ list) ≡ codes "encode" ++ (spaced (net ∷ []) ++ (spaced (number ∷ []) ++ (spaced names ++ (spaced list ++ 10 ∷ []))))
encode-text net number names list =
    line_text-named (codes "encode") net (number ∷ names ++ list)
    ∙ ap (λ t. codes "encode" ++ (spaced (net ∷ []) ++ t)) (spaced-then (number ∷ []) (names ++ list) (10 ∷ [])
    ∙ ap (λ t. spaced (number ∷ []) ++ t) (spaced-then names list (10 ∷ [])))

pub code-text : (c : Code) → spaced (code_word c ∷ []) ≡ codes " " ++ map bit_byte c.bits
code-text c = spaced-one (code_word c)

pub names-more : (ns : List (List ℕ)) (i : ℕ) (n : List ℕ) → i < length ns → n ≡ get_or ns i n → spaced (drop i ns) ≡ spaced (n ∷ []) ++ spaced (drop (i + 1) ns)
names-more ns i n low is = items-more spaced (λ m. spaced (m ∷ [])) ns i n (λ m ms. spaced-append (m ∷ []) ms) low is

pub names-none : (ns : List (List ℕ)) (i : ℕ) → length ns ≤ i → spaced (drop i ns) ≡ []
unfolding spaced
names-none ns i high = at_drop_all spaced ns i high

pub bits-more : (bs : List Bool) (i : ℕ) → i < length bs → map bit_byte (drop i bs) ≡ (bit_byte (get_or bs i false) ∷ []) ++ map bit_byte (drop (i + 1) bs)
bits-more bs i low = at_drop_more (map bit_byte) bs i false low

pub bits-none : (bs : List Bool) (i : ℕ) → length bs ≤ i → map bit_byte (drop i bs) ≡ []
bits-none bs i high = at_drop_all (map bit_byte) bs i high

pub codes-more : (cs : List Code) (i : ℕ) (c : Code) → i < length cs → c ≡ get_or cs i c → spaced (map code_word (drop i cs)) ≡ spaced (code_word c ∷ []) ++ spaced (map code_word (drop (i + 1) cs))
codes-more cs i c low is =
    items-more (λ ds. spaced (map code_word ds)) (λ d. spaced (code_word d ∷ [])) cs i c (λ d ds. spaced-append (code_word d ∷ []) (map code_word ds)) low is

pub codes-none : (cs : List Code) (i : ℕ) → length cs ≤ i → spaced (map code_word (drop i cs)) ≡ []
unfolding spaced
codes-none cs i high = at_drop_all (λ ds. spaced (map code_word ds)) cs i high

pub single-text : (rule : Rule) (line : List (List ℕ)) → rule_lines rule ≡ line ∷ [] → entry_text (Applied rule) ≡ line_text line
unfolding entry_text
single-text rule line e = ap (flat_map line_text) e ∙ append-nil (line_text line)

pub headed-text : (rule : Rule) (line : List (List ℕ)) (body : Body) → rule_lines rule ≡ line ∷ body_lines body → entry_text (Applied rule) ≡ line_text line ++ flat_map line_text (body_lines body)
unfolding entry_text
headed-text rule line body e = ap (flat_map line_text) e
