-- The text of entries whose rules can be printed and whose notes can be seen: as a certificate it lists the rules. A note is a comment
-- line, which has no words to who reads it: its names may be as long as they like, and any words that can be seen.
use Rattle.std.proofs.Common.{◌≡◌, ◌∙◌, ℕ, Bool, zero, suc, ◌+◌, ◌/◌, ◌%◌, ◌<◌, ◌≤◌, true, false, not, ◌==◌, None, List, [], ◌∷◌, ◌++◌, length, decimal, codes, All, refl, sym, ap, subst, arith}
use Rattle.std.specs.Fmt.{digit_glyph, digits, digits_onto}
use Rattle.std.specs.List.{flat_map, list_all, list_any, AllByRecursion}
use Rattle.std.specs.Prelude.{nat_le, nat_lt, if◌then◌else◌}
use Rattle.std.proofs.lemmas.Bool.{and_parts, and_from, cond_both, le-leb, lt-ltb, or_left, or_right}
use Rattle.std.proofs.lemmas.List.Concat.{flat_map-append}
use Rattle.std.proofs.lemmas.List.Elements.{All-nil, All-cons, All-head, All-tail, recursion_from_All}
use Rattle.std.proofs.lemmas.List.Folds.{list_all-append}
use Rattle.mv_base.specs.Names.{is_visible}
use Rattle.mv_base.proofs.Lists.{all-weaker}
use Rattle.mv_entry.specs.declared.note.Command.{Command}
use Rattle.mv_entry.specs.declared.note.Command.TheVariants.{Drop, Sweep, Eliminate, Collapse, Kernel, Cube, Simplify, Merge, Default, Determinize, Encode, Fill}
use Rattle.mv_entry.specs.declared.note.Note.{Note}
use Rattle.mv_entry.specs.declared.note.Note.TheVariants.{Begin, Dropped, End, Done}
use Rattle.mv_entry.specs.declared.note.Why.{Why}
use Rattle.mv_entry.specs.declared.note.Why.TheVariants.{Literals, Lines, Nodes, Window, Kernels, Shared, Seen, Partial, Absent, Varied, Unread, Nets, Strict}
use Rattle.mv_entry.specs.declared.rule.Rule.{Rule}
use Rattle.mv_entry.specs.Entries.{Entry, Applied, Noted, command_names, command_word, operands, why_word, why_numbers, note_words}
use Rattle.mv_entry.specs.Entries.{rule_lines, entry_lines, entry_text, print, rules_of, is_visible_name, HasVisibleNames}
use Rattle.mv_lex.specs.Lines.{lines_of, lex_fault, has_long_word, is_clean, is_within}
use Rattle.mv_lex.specs.Text.{line_text}
use Rattle.mv_lex.proofs.Facts.{no_fault_is_clean}
use Rattle.mv_net.specs.declared.parts.NetParts.{NetParts}
use Rattle.mv_net.specs.Formed.{WellFormed}
use Rattle.mv_rules_back.specs.Names.{HasWordNames}
use Rattle.mv_rules_back.specs.Notes.{notes_of, IsPrintableNote}
use Rattle.mv_rules_back.proofs.Printing.{replayed_printable}
use Rattle.mv_rules_back.proofs.Replaying.{replayed_from_print}
use Rattle.mv_cert.specs.Certificates.{Certifies}
use Rattle.mv_cert.specs.Replay.{rules_in}
use Rattle.mv_base.specs.declared.limits.TheConstants.{MAX_CERTIFICATE_BYTES}
use Rattle.mv_rules.specs.Replaying.{Replays}
use Rattle.mv_step.specs.Certificates.{fault_of, steps_of}
use Rattle.mv_step.specs.Printed.{IsSayable}
use Rattle.mv_entries_back.specs.Printable.{Printable}
use Rattle.mv_entries_back.proofs.LineWords.{rule-written, entries_text}
use Rattle.mv_entries_back.proofs.Printed.{print-faultless, steps-faultless}
use Rattle.mv_lines_back.specs.TextWords.{is_written_line, is_text_line, is_comment, lines_told}
use Rattle.mv_lines_back.proofs.Written.{lines_of-text, is_clean-text}

-- all names of the note can be seen
abbrev pub IsSeenNote : Note → Type 0
IsSeenNote note = HasVisibleNames (Noted note)

-- ---- the words of a note can be seen

are_seen : List (List ℕ) → Type 0
are_seen ws = list_all (list_all is_visible) ws ≡ true

digit_seen : (d : ℕ) → d < 10 → is_visible (digit_glyph false d) ≡ true
digit_seen d small =
    subst (λ t. is_visible (if t then 48 + d else 87 + d) ≡ true) (sym (lt-ltb d 10 small))
    (and_from (nat_le 33 (48 + d)) (nat_le (48 + d) 126) (le-leb 33 (48 + d) (omega arith)) (le-leb (48 + d) 126 (omega arith)))

digits_seen : (k n : ℕ) (back : List ℕ) → list_all is_visible back ≡ true → list_all is_visible (digits_onto k 10 false n back) ≡ true
digits_seen zero n back h = h
digits_seen (suc k) n back h =
    let last = digit_glyph false (n % 10) in
    let more = and_from (is_visible last) (list_all is_visible back) (digit_seen (n % 10) (omega arith)) h in
    cond_both (n / 10 == 0) (last ∷ back) (digits_onto k 10 false (n / 10) (last ∷ back)) (λ w. list_all is_visible w ≡ true) (λ _. more) (λ _. digits_seen k (n / 10) (last ∷ back) more)

number_seen : (n : ℕ) → list_all is_visible (decimal n) ≡ true
unfolding digits
number_seen n = digits_seen 64 n [] refl

name_seen : (w : List ℕ) → is_visible_name w ≡ true → list_all is_visible w ≡ true
name_seen w h = (and_parts (nat_lt 0 (length w)) (list_all is_visible w) h).1

one_seen : (w : List ℕ) → list_all is_visible w ≡ true → are_seen (w ∷ [])
unfolding are_seen
one_seen w h = and_from (list_all is_visible w) true h refl

two_seen : (m n : ℕ) (ws : List (List ℕ)) → are_seen ws → are_seen (decimal m ∷ decimal n ∷ ws)
unfolding are_seen
two_seen m n ws h = and_from (list_all is_visible (decimal m)) _ (number_seen m) (and_from (list_all is_visible (decimal n)) _ (number_seen n) h)

command_seen : (command : Command) → list_all is_visible_name (command_names command) ≡ true → are_seen (command_word command ∷ operands command)
unfolding are_seen
command_seen Drop h = refl
command_seen Sweep h = refl
command_seen Eliminate h = refl
command_seen (Collapse net) h = one_seen net (name_seen net (and_parts (is_visible_name net) true h).0)
command_seen Kernel h = refl
command_seen Cube h = refl
command_seen (Simplify down up) h = two_seen down up [] refl
command_seen Merge h = refl
command_seen Default h = refl
command_seen Determinize h = refl
command_seen Encode h = refl
command_seen Fill h = refl

why_seen : (why : Why) (ws : List (List ℕ)) → are_seen ws → are_seen (why_word why ∷ why_numbers why ++ ws)
unfolding are_seen
why_seen (Literals before after) ws h = two_seen before after ws h
why_seen Lines ws h = h
why_seen Nodes ws h = h
why_seen Window ws h = h
why_seen Kernels ws h = h
why_seen Shared ws h = h
why_seen Seen ws h = h
why_seen Partial ws h = h
why_seen Absent ws h = h
why_seen Varied ws h = h
why_seen Unread ws h = h
why_seen Nets ws h = h
why_seen Strict ws h = h

note_seen : (note : Note) → IsSeenNote note → are_seen (note_words note)
unfolding are_seen
note_seen (Begin command) h = command_seen command h.each
note_seen (Dropped why net) h = why_seen why (net ∷ []) (one_seen net (name_seen net (and_parts (is_visible_name net) true h.each).0))
note_seen (End literals) h = one_seen (decimal literals) (number_seen literals)
note_seen (Done before after) h = two_seen before after [] refl

-- ---- short notes in the place of the notes

-- the entries, with the same short note in the place of each
abbrev quiet : List Entry → List Entry
quiet [] = []
quiet (Applied rule ∷ es) = Applied rule ∷ quiet es
quiet (Noted note ∷ es) = Noted (End 0) ∷ quiet es

quiet_rules : (es : List Entry) → rules_of (quiet es) ≡ rules_of es
quiet_rules [] = refl
quiet_rules (Applied rule ∷ es) = ap (λ rs. rule ∷ rs) (quiet_rules es)
quiet_rules (Noted note ∷ es) = quiet_rules es

quiet_notes : (es : List Entry) → All IsPrintableNote (notes_of (quiet es))
quiet_notes [] = All-nil IsPrintableNote
quiet_notes (Applied rule ∷ es) = quiet_notes es
quiet_notes (Noted note ∷ es) =
    All-cons IsPrintableNote (End 0) (notes_of (quiet es)) (record { names = refl; sets = All-nil IsSayable; numbers = refl; form = refl }) (quiet_notes es)

-- ---- what is told of the lines

-- behind the same lines the same is told
told_behind : (ls xs ys : List (List (List ℕ))) → ((n : ℕ) → lines_told n xs ≡ lines_told n ys) → (n : ℕ) → lines_told n (ls ++ xs) ≡ lines_told n (ls ++ ys)
told_behind [] xs ys same n = same n
told_behind (l ∷ ls) xs ys same n =
    ap (λ ms. (if is_comment l then [] else record { number = n; words = l } ∷ []) ++ ms) (told_behind ls xs ys same (n + 1))

-- nothing is told of notes
quiet_told : (es : List Entry) (n : ℕ) → lines_told n (flat_map entry_lines es) ≡ lines_told n (flat_map entry_lines (quiet es))
quiet_told [] n = refl
quiet_told (Applied rule ∷ es) n = told_behind (rule_lines rule) (flat_map entry_lines es) (flat_map entry_lines (quiet es)) (quiet_told es) n
quiet_told (Noted note ∷ es) n = quiet_told es (n + 1)

comment_text : (ws : List (List ℕ)) → are_seen ws → is_text_line (codes "#" ∷ ws) ≡ true
unfolding are_seen is_text_line
comment_text ws h = or_right (is_written_line (codes "#" ∷ ws)) _ h

rule_text : (rule : Rule) → Printable (Applied rule) → list_all is_text_line (rule_lines rule) ≡ true
unfolding is_text_line
rule_text rule is = all-weaker is_written_line is_text_line (λ ws w. or_left (is_written_line ws) _ w) (rule_lines rule) (rule-written rule is)

-- the lines are lines of a text
seen_text : (es : List Entry) → AllByRecursion Printable (quiet es) → All IsSeenNote (notes_of es) → list_all is_text_line (flat_map entry_lines es) ≡ true
seen_text [] all seen = refl
seen_text (Applied rule ∷ es) all seen =
    list_all-append is_text_line (rule_lines rule) (flat_map entry_lines es) ∙ and_from _ _ (rule_text rule all.0) (seen_text es all.1 seen)
seen_text (Noted note ∷ es) all seen =
    and_from (is_text_line (codes "#" ∷ note_words note)) _ (comment_text (note_words note) (note_seen note (All-head IsSeenNote note (notes_of es) seen)))
    (seen_text es all.1 (All-tail IsSeenNote note (notes_of es) seen))

-- ---- the text

print_lines : (es : List Entry) → print es ≡ flat_map line_text (flat_map entry_lines es)
unfolding print entry_text
print_lines [] = refl
print_lines (e ∷ es) = ap (λ t. entry_text e ++ t) (print_lines es) ∙ sym (flat_map-append line_text (entry_lines e) (flat_map entry_lines es))

module _ (es : List Entry) (printable : All Printable (quiet es)) (seen : All IsSeenNote (notes_of es)) where
  text : list_all is_text_line (flat_map entry_lines es) ≡ true
  text = seen_text es (recursion_from_All Printable (quiet es) printable) seen

  -- its lines are those of the text with short notes
  same_lines : lines_of (print es) ≡ lines_of (print (quiet es))
  same_lines =
      let short = entries_text (quiet es) (recursion_from_All Printable (quiet es) printable) in
      ap lines_of (print_lines es)
      ∙ (lines_of-text (flat_map entry_lines es) text
      ∙ (quiet_told es 1
      ∙ (sym (lines_of-text (flat_map entry_lines (quiet es)) short)
      ∙ sym (ap lines_of (print_lines (quiet es))))))

  -- no word is too long
  words_short : not (list_any has_long_word (lines_of (print es))) ≡ true
  unfolding is_within
  words_short =
      let size = length (print (quiet es)) in
      let clean = (no_fault_is_clean size (print (quiet es))).0 (print-faultless size (quiet es) printable (omega arith)) in
      ap (λ ls. not (list_any has_long_word ls)) same_lines ∙ (and_parts (nat_le size size) _ clean.0).1

  lexed : (limit : ℕ) → length (print es) ≤ limit → lex_fault limit (print es) ≡ None
  unfolding is_within
  lexed limit fits =
      (no_fault_is_clean limit (print es)).1 (
        and_from (nat_le (length (print es)) limit) _ (le-leb (length (print es)) limit fits) words_short,
        ap is_clean (print_lines es) ∙ is_clean-text (flat_map entry_lines es) text,
      )

  form : fault_of (lines_of (print es)) ≡ None
  form = ap fault_of same_lines ∙ steps-faultless (quiet es) printable

  read_back : (free : Bool) (a b : NetParts) → Replays free (rules_of es) a b → Replays free (rules_in (steps_of (lines_of (print es)))) a b
  read_back free a b p =
      let quiet_replays : Replays free (rules_of (quiet es)) a b = subst (λ rs. Replays free rs a b) (sym (quiet_rules es)) p in
      subst (λ ls. Replays free (rules_in (steps_of ls)) a b) (sym same_lines) (replayed_from_print free (quiet es) a b printable quiet_replays)

-- where the rules apply in turn, and the notes can be seen, the text is a certificate if it isn't too long
pub seen_certifies : (free : Bool) (es : List Entry) (a b : NetParts) → WellFormed a → HasWordNames a.nets → All IsSeenNote (notes_of es) → Replays free (rules_of es) a b
    → length (print es) ≤ MAX_CERTIFICATE_BYTES → Certifies free (print es) a b
seen_certifies free es a b formed names seen p fits =
    let printable = replayed_printable free (quiet es) a b formed names (quiet_notes es) (subst (λ rs. Replays free rs a b) (sym (quiet_rules es)) p) in
    record {
      accepted = record { lexed = lexed es printable seen MAX_CERTIFICATE_BYTES fits; form = form es printable seen };
      replays = read_back es printable seen free a b p;
    }
