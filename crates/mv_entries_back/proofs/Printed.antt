-- The text of entries has no fault, is read back as the lines of its rules, and is the text of no other entries.
use Rattle.std.proofs.Common.{◌≡◌, ℕ, ◌+◌, ◌≤◌, None, List, [], ◌∷◌, ◌++◌, length, All, refl, ap, sym, ◌∙◌}
use Rattle.std.specs.List.{flat_map, AllByRecursion}
use Rattle.std.proofs.lemmas.List.Concat.{flat_map-append}
use Rattle.std.proofs.lemmas.List.Elements.{recursion_from_All}
use Rattle.mv_lex.specs.Lines.{lines_of, lex_fault}
use Rattle.mv_lex.specs.Text.{line_text}
use Rattle.mv_entry.specs.Entries.{Entry, entry_lines, entry_text, print}
use Rattle.mv_step.specs.Certificates.{fault_of, steps_of}
use Rattle.mv_lines_back.specs.TextWords.{lines_from, lines_told}
use Rattle.mv_lines_back.proofs.Written.{lines_of-text, lex_fault-text}
use Rattle.mv_lines_back.proofs.Apart.{text-apart}
use Rattle.mv_entries_back.specs.Printable.{Printable}
use Rattle.mv_entries_back.specs.Told.{steps_told}
use Rattle.mv_entries_back.proofs.LineWords.{entries_text, entries_short}
use Rattle.mv_entries_back.proofs.Listed.{entries_of, entries-back, listed}

-- the text of entries is that of their lines
print-lines : (es : List Entry) → print es ≡ flat_map line_text (flat_map entry_lines es)
unfolding print entry_text
print-lines [] = refl
print-lines (e ∷ es) = ap (λ t. entry_text e ++ t) (print-lines es) ∙ sym (flat_map-append line_text (entry_lines e) (flat_map entry_lines es))

-- the facts of entries by recursion
each : (es : List Entry) → All Printable es → AllByRecursion Printable es
each es all = recursion_from_All Printable es all

pub print-faultless : (limit : ℕ) (es : List Entry) → All Printable es → length (print es) ≤ limit → lex_fault limit (print es) ≡ None
print-faultless limit es all fits =
    rw (print-lines es) (lex_fault-text limit (flat_map entry_lines es) (entries_text es (each es all)) (entries_short es (each es all)) (rw (print-lines es) at fits))

print-told : (es : List Entry) → All Printable es → lines_of (print es) ≡ lines_told 1 (flat_map entry_lines es)
print-told es all = ap lines_of (print-lines es) ∙ lines_of-text (flat_map entry_lines es) (entries_text es (each es all))

pub steps-back : (es : List Entry) → All Printable es → steps_of (lines_of (print es)) ≡ steps_told 1 es
steps-back es all = ap steps_of (print-told es all) ∙ (listed 1 es (each es all)).steps

pub steps-faultless : (es : List Entry) → All Printable es → fault_of (lines_of (print es)) ≡ None
unfolding fault_of
steps-faultless es all = ap fault_of (print-told es all) ∙ (listed 1 es (each es all)).faultless

-- the lines of entries tell the entries
lines-apart : (es fs : List Entry) → AllByRecursion Printable es → AllByRecursion Printable fs → flat_map entry_lines es ≡ flat_map entry_lines fs → es ≡ fs
lines-apart es fs all every e = sym (entries-back 1 es all) ∙ (ap (λ ls. entries_of (lines_from 1 ls)) e ∙ entries-back 1 fs every)

pub print-apart : (es fs : List Entry) → All Printable es → All Printable fs → print es ≡ print fs → es ≡ fs
print-apart es fs all every e =
    let lines : flat_map line_text (flat_map entry_lines es) ≡ flat_map line_text (flat_map entry_lines fs) = sym (print-lines es) ∙ (e ∙ print-lines fs) in
    lines-apart es fs (each es all) (each fs every) (text-apart (flat_map entry_lines es) (flat_map entry_lines fs) (entries_text es (each es all)) (entries_text fs (each fs every)) lines)
