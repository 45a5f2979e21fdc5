-- The lines of entries are lines of a text, with words that aren't too long.
use Rattle.std.proofs.Common.{◌≡◌, ℕ, ◌^◌, ◌<◌, ◌≤◌, Bool, true, false, not, ◌&&◌, ◌==◌, List, [], ◌∷◌, ◌++◌, length, map, Option, Some, None, codes, decimal, refl, sym, ◌∙◌, arith}
use Rattle.std.specs.Prelude.{nat_lt, nat_le}
use Rattle.std.specs.List.{flat_map, list_all, list_any, AllByRecursion}
use Rattle.std.proofs.lemmas.Bool.{and_parts, and_from, or_left, or_right, leb-true, ltb-true, lt-ltb, eqb-true, not-true, not_from_false, or_from, ne_eqb}
use Rattle.std.proofs.lemmas.List.{length-map}
use Rattle.std.proofs.lemmas.List.Folds.{list_all-append}
use Rattle.std.proofs.lemmas.List.Elements.{recursion_from_All}
use Rattle.mv_base.specs.declared.number.Value.{Value}
use Rattle.mv_base.specs.declared.limits.TheConstants.{MAX_WORD_BYTES}
use Rattle.mv_base.proofs.Lists.{all-weaker}
use Rattle.mv_lex.specs.Words.{is_long}
use Rattle.mv_entry.specs.declared.rule.BodyLit.{BodyLit}
use Rattle.mv_entry.specs.declared.rule.BodyLine.{BodyLine}
use Rattle.mv_entry.specs.declared.rule.Body.{Body}
use Rattle.mv_entry.specs.declared.rule.Code.{Code}
use Rattle.mv_entry.specs.declared.rule.Rule.{Rule}
use Rattle.mv_entry.specs.declared.rule.Rule.TheVariants.{Remove, Add, Divide, Wire, Collapse, Narrow, Fill, Merge as MergeValue, Encode as EncodeNet}
use Rattle.mv_entry.specs.declared.note.Command.{Command}
use Rattle.mv_entry.specs.declared.note.Command.TheVariants.{Drop, Sweep, Eliminate, Kernel, Cube, Simplify, Merge, Default, Determinize, Encode, Collapse as CollapseNet, Fill as FillAll}
use Rattle.mv_entry.specs.declared.note.Why.{Why}
use Rattle.mv_entry.specs.declared.note.Why.TheVariants.{Literals, Lines, Nodes, Window, Kernels, Shared, Seen, Partial, Absent, Varied, Unread, Nets, Strict}
use Rattle.mv_entry.specs.declared.note.Note.{Note}
use Rattle.mv_entry.specs.declared.note.Note.TheVariants.{Begin, Dropped, End, Done}
use Rattle.mv_entry.specs.Entries.{Entry, Applied, Noted, set_word, lit_words, line_words, body_lines, into_words, bit_byte, code_word, rule_lines, command_word, operands, why_word, why_numbers, note_words, entry_lines, body_names, rule_names, command_names, note_names}
use Rattle.mv_step.specs.Printed.{IsSayable, is_sayable_number, is_sayable_code, is_sayable_form}
use Rattle.mv_lines_back.specs.TextWords.{is_plain_word, is_written_word, is_written_line, is_text_line}
use Rattle.mv_lines_back.proofs.Lists.{plain-written}
use Rattle.mv_lines_back.proofs.Comments.{written_bytes, seen_bytes}
use Rattle.mv_entries_back.specs.Printable.{body_sets, rule_sets, command_numbers, reason_numbers, note_numbers, is_text_name, is_text_number, Printable}
use Rattle.mv_entries_back.proofs.Sayable.{AreSayable, line_parts}
use Rattle.mv_entries_back.proofs.Decimals.{is_digit, digits_plain, decimal_plain, decimal_short}
use Rattle.mv_entries_back.proofs.SetWords.{set-word, short_word}

-- ---- words

-- a word that is read back as it is written, and isn't too long
is_good : List ℕ → Bool
is_good w = is_written_word w && not (is_long w)

good : (w : List ℕ) → is_written_word w ≡ true → length w ≤ MAX_WORD_BYTES → is_good w ≡ true
unfolding is_good
good w written short = and_from (is_written_word w) _ written (not_from_false (is_long w) (short_word w short))

name-good : (w : List ℕ) → is_text_name w ≡ true → is_good w ≡ true
name-good w h =
    let both = and_parts (is_plain_word w) (nat_le (length w) MAX_WORD_BYTES) h in
    good w (plain-written w both.0) (leb-true (length w) MAX_WORD_BYTES both.1)

set-good : (set : ℕ) → IsSayable set → is_good (set_word set) ≡ true
unfolding is_good
set-good set h = let is = set-word set h in and_from (is_written_word (set_word set)) _ is.written (not_from_false (is_long (set_word set)) is.short)

number-good : (n : ℕ) → is_text_number n ≡ true → is_good (decimal n) ≡ true
number-good n h =
    let small = ltb-true n (2 ^ 128) h in
    let short = decimal_short n small in
    good (decimal n) (plain-written (decimal n) (decimal_plain n (omega arith))) (omega (arith, short))

-- ---- lines

-- a line of such words
is_good_line : List (List ℕ) → Bool
is_good_line ws = not (length ws == 0) && list_all is_good ws

line-good : (w : List ℕ) (ws : List (List ℕ)) → is_good w ≡ true → list_all is_good ws ≡ true → is_good_line (w ∷ ws) ≡ true
unfolding is_good_line
line-good w ws h rest = and_from _ _ (not_from_false (length (w ∷ ws) == 0) (ne_eqb (length (w ∷ ws)) 0 (λ e. omega arith))) (and_from (is_good w) (list_all is_good ws) h rest)

one-good : (w : List ℕ) → is_good w ≡ true → list_all is_good (w ∷ []) ≡ true
one-good w h = and_from (is_good w) true h refl

-- literals, in front of other words
lits-good : (lits : List BodyLit) (out : ℕ) → list_all is_text_name (map (λ (m : BodyLit). m.net) lits) ≡ true → AreSayable (map (λ (m : BodyLit). m.set) lits ++ out ∷ []) → list_all is_good (flat_map lit_words lits ++ codes "->" ∷ set_word out ∷ []) ≡ true
unfolding is_good is_written_word
lits-good [] out names sets = and_from _ _ refl (one-good (set_word out) (set-good out sets.0))
lits-good (l ∷ lits) out names sets =
    let name = and_parts (is_text_name l.net) _ names in
    and_from (is_good l.net) _ (name-good l.net name.0) (and_from (is_good (set_word l.set)) _ (set-good l.set sets.0) (lits-good lits out name.1 sets.1))

lines-good : (lines : List BodyLine) (default : Option ℕ) → list_all is_text_name (body_names (record { lines = lines; default = default })) ≡ true → AreSayable (body_sets (record { lines = lines; default = default })) → list_all is_good_line (body_lines (record { lines = lines; default = default })) ≡ true
unfolding is_good_line is_good is_written_word
lines-good [] None names sets = refl
lines-good [] (Some set) names sets = and_from _ _ (one-good (set_word set) (set-good set sets.0)) refl
lines-good (l ∷ lines) default names sets =
    let name = and_parts (list_all is_text_name (map (λ (m : BodyLit). m.net) l.lits)) _ (sym (list_all-append is_text_name (map (λ (m : BodyLit). m.net) l.lits) (body_names (record { lines = lines; default = default }))) ∙ names) in
    let set = line_parts l lines default sets in
    and_from (is_good_line (line_words l)) _ (line-good (codes "line") (flat_map lit_words l.lits ++ codes "->" ∷ set_word l.out ∷ []) refl (lits-good l.lits l.out name.0 set.0)) (lines-good lines default name.1 set.1)

body-good : (b : Body) → list_all is_text_name (body_names b) ≡ true → AreSayable (body_sets b) → list_all is_good_line (body_lines b) ≡ true
body-good b names sets = lines-good b.lines b.default names sets

-- a line of a word and a name
pair-good : (w net : List ℕ) → is_good w ≡ true → is_text_name net ≡ true → is_good_line (w ∷ net ∷ []) ≡ true
unfolding is_good_line
pair-good w net h name = and_from (is_good w) _ h (one-good net (name-good net name))

-- and of a word and two names
triple-good : (w net by : List ℕ) → is_good w ≡ true → is_text_name net ≡ true → is_text_name by ≡ true → is_good_line (w ∷ net ∷ by ∷ []) ≡ true
unfolding is_good_line
triple-good w net by h name other = and_from (is_good w) _ h (and_from (is_good net) _ (name-good net name) (one-good by (name-good by other)))

-- a number that stands in a rule
small-good : (n : ℕ) → is_sayable_number n ≡ true → is_good (decimal n) ≡ true
small-good n h = let small = ltb-true n 65536 h in number-good n (lt-ltb n (2 ^ 128) (omega (arith, small)))

-- a word of digits of bits
bits-plain : (bits : List Bool) → 0 < length bits → is_plain_word (map bit_byte bits) ≡ true
unfolding is_digit
bits-plain bits some = digits_plain (map bit_byte bits) (let size = length-map bits bit_byte in omega (arith, size)) (digits bits)
  where
    digits : (bs : List Bool) → list_all is_digit (map bit_byte bs) ≡ true
    digits [] = refl
    digits (true ∷ bs) = digits bs
    digits (false ∷ bs) = digits bs

code-good : (count : ℕ) (c : Code) → is_sayable_code count c ≡ true → is_good (code_word c) ≡ true
code-good count c h =
    let two = and_parts (length c.bits == count && nat_lt 0 count) (nat_le count MAX_WORD_BYTES) h in
    let one = and_parts (length c.bits == count) (nat_lt 0 count) two.0 in
    let same = eqb-true (length c.bits) count one.0 in
    let some = ltb-true 0 count one.1 in
    let few = leb-true count MAX_WORD_BYTES two.1 in
    let size = length-map c.bits bit_byte in
    good (code_word c) (plain-written (code_word c) (bits-plain c.bits (omega (arith, same, some)))) (omega (arith, size, same, few))

codes-good : (count : ℕ) (list : List Code) → list_all (is_sayable_code count) list ≡ true → list_all is_good (map code_word list) ≡ true
codes-good count [] h = refl
codes-good count (c ∷ cs) h =
    let both = and_parts (is_sayable_code count c) (list_all (is_sayable_code count) cs) h in
    and_from (is_good (code_word c)) _ (code-good count c both.0) (codes-good count cs both.1)

into-good : (net : List ℕ) (gone : Value) (into : Option Value) → is_sayable_form (MergeValue net gone into) ≡ true → list_all is_good (decimal gone.0 ∷ into_words into) ≡ true
into-good net gone None h = one-good (decimal gone.0) (small-good gone.0 h)
into-good net gone (Some into) h =
    let both = and_parts (is_sayable_number gone.0) (is_sayable_number into.0) h in
    and_from (is_good (decimal gone.0)) _ (small-good gone.0 both.0) (one-good (decimal into.0) (small-good into.0 both.1))

-- a line of a word, a name and other words
named-good : (w net : List ℕ) (ws : List (List ℕ)) → is_good w ≡ true → is_text_name net ≡ true → list_all is_good ws ≡ true → is_good_line (w ∷ net ∷ ws) ≡ true
named-good w net ws h name rest = line-good w (net ∷ ws) h (and_from (is_good net) _ (name-good net name) rest)

names-good : (names : List (List ℕ)) → list_all is_text_name names ≡ true → list_all is_good names ≡ true
names-good names h = all-weaker is_text_name is_good name-good names h

rule-good : (rule : Rule) → list_all is_text_name (rule_names rule) ≡ true → AreSayable (rule_sets rule) → is_sayable_form rule ≡ true → list_all is_good_line (rule_lines rule) ≡ true
unfolding is_good is_written_word
rule-good (Remove net) names sets form = and_from _ true (pair-good (codes "remove") net refl (and_parts (is_text_name net) true names).0) refl
rule-good (Wire net) names sets form = and_from _ true (pair-good (codes "wire") net refl (and_parts (is_text_name net) true names).0) refl
rule-good (Collapse net) names sets form = and_from _ true (pair-good (codes "collapse") net refl (and_parts (is_text_name net) true names).0) refl
rule-good (Add net body) names sets form =
    let name = and_parts (is_text_name net) (list_all is_text_name (body_names body)) names in
    and_from (is_good_line (codes "add" ∷ net ∷ [])) _ (pair-good (codes "add") net refl name.0) (body-good body name.1 sets)
rule-good (Divide net by body) names sets form =
    let name = and_parts (is_text_name net) (list_all is_text_name (by ∷ body_names body)) names in
    let others = and_parts (is_text_name by) (list_all is_text_name (body_names body)) name.1 in
    and_from (is_good_line (codes "divide" ∷ net ∷ by ∷ [])) _ (triple-good (codes "divide") net by refl name.0 others.0) (body-good body others.1 sets)
rule-good (Narrow net d u body) names sets form =
    let name = and_parts (is_text_name net) (list_all is_text_name (body_names body)) names in
    let both = and_parts (is_sayable_number d) (is_sayable_number u) form in
    let numbers = and_from (is_good (decimal d)) _ (small-good d both.0) (one-good (decimal u) (small-good u both.1)) in
    and_from (is_good_line (codes "narrow" ∷ net ∷ decimal d ∷ decimal u ∷ [])) _ (named-good (codes "narrow") net (decimal d ∷ decimal u ∷ []) refl name.0 numbers) (body-good body name.1 sets)
rule-good (MergeValue net gone into) names sets form =
    and_from _ true (named-good (codes "merge") net (decimal gone.0 ∷ into_words into) refl (and_parts (is_text_name net) true names).0 (into-good net gone into form)) refl
rule-good (EncodeNet net names list) every sets form =
    let name = and_parts (is_text_name net) (list_all is_text_name names) every in
    let both = and_parts (is_sayable_number (length names)) (list_all (is_sayable_code (length names)) list) form in
    let words = list_all-append is_good names (map code_word list) ∙ and_from _ _ (names-good names name.1) (codes-good (length names) list both.1) in
    and_from _ true (named-good (codes "encode") net (decimal (length names) ∷ names ++ map code_word list) refl name.0 (and_from (is_good (decimal (length names))) _ (small-good (length names) both.0) words)) refl
rule-good (Fill net out) names sets form =
    and_from _ true (named-good (codes "fill") net (set_word out ∷ []) refl (and_parts (is_text_name net) true names).0 (one-good (set_word out) (set-good out sets.0))) refl

-- ---- notes

two-good : (m n : ℕ) → list_all is_text_number (m ∷ n ∷ []) ≡ true → list_all is_good (decimal m ∷ decimal n ∷ []) ≡ true
two-good m n h =
    let first = and_parts (is_text_number m) (list_all is_text_number (n ∷ [])) h in
    let second = and_parts (is_text_number n) true first.1 in
    and_from (is_good (decimal m)) _ (number-good m first.0) (one-good (decimal n) (number-good n second.0))

command-good : (command : Command) → list_all is_text_name (command_names command) ≡ true → list_all is_text_number (command_numbers command) ≡ true → list_all is_good (command_word command ∷ operands command) ≡ true
unfolding is_good is_written_word
command-good Drop names numbers = refl
command-good Sweep names numbers = refl
command-good Eliminate names numbers = refl
command-good (CollapseNet net) names numbers = one-good net (name-good net (and_parts (is_text_name net) true names).0)
command-good Kernel names numbers = refl
command-good Cube names numbers = refl
command-good (Simplify down up) names numbers = two-good down up numbers
command-good Merge names numbers = refl
command-good Default names numbers = refl
command-good Determinize names numbers = refl
command-good Encode names numbers = refl
command-good FillAll names numbers = refl

why-good : (why : Why) (net : List ℕ) → is_text_name net ≡ true → list_all is_text_number (reason_numbers why) ≡ true → list_all is_good (why_word why ∷ why_numbers why ++ net ∷ []) ≡ true
unfolding is_good is_written_word
why-good (Literals before after) net name numbers =
    let first = and_parts (is_text_number before) (list_all is_text_number (after ∷ [])) numbers in
    let second = and_parts (is_text_number after) true first.1 in
    and_from (is_good (decimal before)) _ (number-good before first.0) (and_from (is_good (decimal after)) _ (number-good after second.0) (one-good net (name-good net name)))
why-good Lines net name numbers = one-good net (name-good net name)
why-good Nodes net name numbers = one-good net (name-good net name)
why-good Window net name numbers = one-good net (name-good net name)
why-good Kernels net name numbers = one-good net (name-good net name)
why-good Shared net name numbers = one-good net (name-good net name)
why-good Seen net name numbers = one-good net (name-good net name)
why-good Partial net name numbers = one-good net (name-good net name)
why-good Absent net name numbers = one-good net (name-good net name)
why-good Varied net name numbers = one-good net (name-good net name)
why-good Unread net name numbers = one-good net (name-good net name)
why-good Nets net name numbers = one-good net (name-good net name)
why-good Strict net name numbers = one-good net (name-good net name)

note-good : (note : Note) → list_all is_text_name (note_names note) ≡ true → list_all is_text_number (note_numbers note) ≡ true → list_all is_good (note_words note) ≡ true
unfolding is_good is_written_word
note-good (Begin command) names numbers = command-good command names numbers
note-good (Dropped why net) names numbers = why-good why net (and_parts (is_text_name net) true names).0 numbers
note-good (End literals) names numbers = one-good (decimal literals) (number-good literals (and_parts (is_text_number literals) true numbers).0)
note-good (Done before after) names numbers = two-good before after numbers

-- ---- entries

-- a line of a text without a word that is too long
is_short_line : List (List ℕ) → Bool
is_short_line ws = is_text_line ws && not (list_any is_long ws)

goods-short : (ws : List (List ℕ)) → list_all is_good ws ≡ true → list_any is_long ws ≡ false
unfolding is_good
goods-short [] h = refl
goods-short (w ∷ ws) h =
    let both = and_parts (is_good w) (list_all is_good ws) h in
    or_from (is_long w) (list_any is_long ws) (not-true (is_long w) (and_parts (is_written_word w) _ both.0).1) (goods-short ws both.1)

goods-written : (ws : List (List ℕ)) → list_all is_good ws ≡ true → list_all is_written_word ws ≡ true
unfolding is_good
goods-written ws h = all-weaker is_good is_written_word (λ w e. (and_parts (is_written_word w) (not (is_long w)) e).0) ws h

good-written : (ws : List (List ℕ)) → is_good_line ws ≡ true → is_written_line ws ≡ true
unfolding is_good_line is_written_line
good-written ws h = let both = and_parts (not (length ws == 0)) (list_all is_good ws) h in and_from _ _ both.0 (goods-written ws both.1)

good-short : (ws : List (List ℕ)) → is_good_line ws ≡ true → is_short_line ws ≡ true
unfolding is_good_line is_short_line is_text_line
good-short ws h =
    let both = and_parts (not (length ws == 0)) (list_all is_good ws) h in
    and_from (is_text_line ws) _ (or_left (is_written_line ws) _ (good-written ws h)) (not_from_false (list_any is_long ws) (goods-short ws both.1))

comment-short : (ws : List (List ℕ)) → list_all is_good ws ≡ true → is_short_line (codes "#" ∷ ws) ≡ true
unfolding is_short_line is_text_line
comment-short ws h =
    let line = codes "#" ∷ ws in
    and_from (is_text_line line) _ (or_right (is_written_line line) _ (seen_bytes ws (written_bytes ws (goods-written ws h)))) (not_from_false (list_any is_long line) (goods-short ws h))

-- the lines of a rule are read back
pub rule-written : (rule : Rule) → Printable (Applied rule) → list_all is_written_line (rule_lines rule) ≡ true
rule-written rule is = all-weaker is_good_line is_written_line good-written (rule_lines rule) (rule-good rule is.names (recursion_from_All IsSayable (rule_sets rule) is.sets) is.form)

entry-short : (e : Entry) → Printable e → list_all is_short_line (entry_lines e) ≡ true
entry-short (Applied rule) is = all-weaker is_good_line is_short_line good-short (rule_lines rule) (rule-good rule is.names (recursion_from_All IsSayable (rule_sets rule) is.sets) is.form)
entry-short (Noted note) is = and_from (is_short_line (codes "#" ∷ note_words note)) true (comment-short (note_words note) (note-good note is.names is.numbers)) refl

entries-short : (es : List Entry) → AllByRecursion Printable es → list_all is_short_line (flat_map entry_lines es) ≡ true
entries-short [] all = refl
entries-short (e ∷ es) all =
    list_all-append is_short_line (entry_lines e) (flat_map entry_lines es) ∙ and_from _ _ (entry-short e all.0) (entries-short es all.1)

-- all lines of entries are lines of a text
pub entries_text : (es : List Entry) → AllByRecursion Printable es → list_all is_text_line (flat_map entry_lines es) ≡ true
unfolding is_short_line
entries_text es all = all-weaker is_short_line is_text_line (λ ws h. (and_parts (is_text_line ws) _ h).0) (flat_map entry_lines es) (entries-short es all)

none_long : (ls : List (List (List ℕ))) → list_all is_short_line ls ≡ true → list_any (list_any is_long) ls ≡ false
unfolding is_short_line
none_long [] h = refl
none_long (ws ∷ ls) h =
    let both = and_parts (is_short_line ws) (list_all is_short_line ls) h in
    or_from (list_any is_long ws) _ (not-true (list_any is_long ws) (and_parts (is_text_line ws) _ both.0).1) (none_long ls both.1)

-- and no word of them is too long
pub entries_short : (es : List Entry) → AllByRecursion Printable es → list_any (list_any is_long) (flat_map entry_lines es) ≡ false
entries_short es all = none_long (flat_map entry_lines es) (entries-short es all)
