-- What the printed lines of rules and notes say: a line of a body, a default, and the words of a note.
use Rattle.std.proofs.Common.{◌≡◌, ℕ, ◌^◌, true, List, [], ◌∷◌, ◌++◌, codes, decimal, refl, ap, arith}
use Rattle.std.specs.Prelude.{if◌then◌else◌}
use Rattle.std.specs.List.{list_all}
use Rattle.std.specs.Str.Parse.{digits_value}
use Rattle.std.proofs.lemmas.Bool.{and_parts, ltb-true}
use Rattle.mv_base.specs.Names.{same_word}
use Rattle.mv_entry.specs.declared.rule.BodyLine.{BodyLine}
use Rattle.mv_entry.specs.declared.note.Command.{Command}
use Rattle.mv_entry.specs.declared.note.Command.TheVariants.{Drop, Sweep, Eliminate, Kernel, Cube, Simplify, Merge, Default, Determinize, Encode, Fill, Collapse as CollapseNet}
use Rattle.mv_entry.specs.declared.note.Why.{Why}
use Rattle.mv_entry.specs.declared.note.Why.TheVariants.{Literals, Lines, Nodes, Window, Kernels, Shared, Seen, Partial, Absent, Varied, Unread, Nets, Strict}
use Rattle.mv_entry.specs.declared.note.Note.{Note}
use Rattle.mv_entry.specs.declared.note.Note.TheVariants.{Begin, Dropped, End, Done}
use Rattle.mv_entry.specs.Entries.{set_word, line_words, command_word, operands, why_word, why_numbers, note_words}
use Rattle.mv_step.specs.declared.said.Said.TheVariants.{Line, Default as said_default}
use Rattle.mv_step.specs.Lines.{line_or_nothing, default_said, keyword_of, said}
use Rattle.mv_step.specs.Printed.{IsSayable}
use Rattle.mv_step.proofs.Written.{set_said-set_word, line_said-words}
use Rattle.mv_entries_back.specs.Printable.{line_sets, command_numbers, reason_numbers, note_numbers, is_text_number}
use Rattle.mv_entries_back.proofs.Sayable.{AreSayable, line-sayable}
use Rattle.mv_entries_back.proofs.Decimals.{decimal-back}

-- ---- lines of bodies

-- a line of a body says itself
pub line-said : (l : BodyLine) → AreSayable (line_sets l) → said (line_words l) ≡ Line l
unfolding keyword_of
line-said l all = let is = line-sayable l all in ap line_or_nothing (line_said-words l.lits l.out is.lits is.out)

-- and a default its set
pub default-said : (set : ℕ) → IsSayable set → said (codes "default" ∷ set_word set ∷ []) ≡ said_default set
unfolding keyword_of
default-said set h = ap default_said (set_said-set_word set h)

-- ---- notes

first_word : List (List ℕ) → List ℕ
first_word [] = []
first_word (w ∷ ws) = w

others : List (List ℕ) → List (List ℕ)
others [] = []
others (w ∷ ws) = ws

-- the number of a word, and that of the one behind it
number : List (List ℕ) → ℕ
number ws = digits_value 10 (first_word ws)

second : List (List ℕ) → ℕ
second ws = number (others ws)

-- the command that words say
command_of : List (List ℕ) → Command
command_of ws =
    let w = first_word ws in
    if same_word w (codes "drop") then Drop
    else if same_word w (codes "sweep") then Sweep
    else if same_word w (codes "eliminate") then Eliminate
    else if same_word w (codes "collapse") then CollapseNet (first_word (others ws))
    else if same_word w (codes "kernel") then Kernel
    else if same_word w (codes "cube") then Cube
    else if same_word w (codes "simplify") then Simplify (number (others ws)) (second (others ws))
    else if same_word w (codes "merge") then Merge
    else if same_word w (codes "default") then Default
    else if same_word w (codes "determinize") then Determinize
    else if same_word w (codes "encode") then Encode
    else Fill

-- the reason without numbers that a word says
reason_of : List ℕ → Why
reason_of w =
    if same_word w (codes "lines") then Lines
    else if same_word w (codes "nodes") then Nodes
    else if same_word w (codes "window") then Window
    else if same_word w (codes "kernels") then Kernels
    else if same_word w (codes "shared") then Shared
    else if same_word w (codes "seen") then Seen
    else if same_word w (codes "partial") then Partial
    else if same_word w (codes "absent") then Absent
    else if same_word w (codes "varied") then Varied
    else if same_word w (codes "unread") then Unread
    else if same_word w (codes "nets") then Nets
    else Strict

-- the note on a dropped step that words say
dropped_of : List (List ℕ) → Note
dropped_of ws =
    if same_word (first_word ws) (codes "literals") then Dropped (Literals (number (others ws)) (second (others ws))) (first_word (others (others (others ws))))
    else Dropped (reason_of (first_word ws)) (first_word (others ws))

-- the note that words say
pub note_of : List (List ℕ) → Note
note_of ws =
    let w = first_word ws in
    if same_word w (codes "begin") then Begin (command_of (others ws))
    else if same_word w (codes "note") then dropped_of (others ws)
    else if same_word w (codes "end") then End (number (others ws))
    else Done (number (others ws)) (second (others ws))

number-back : (n : ℕ) → is_text_number n ≡ true → digits_value 10 (decimal n) ≡ n
number-back n h = let small = ltb-true n (2 ^ 128) h in decimal-back n (omega arith)

-- two numbers
record AreBack (m n : ℕ) : Type 0 where
  one : digits_value 10 (decimal m) ≡ m
  two : digits_value 10 (decimal n) ≡ n

numbers-back : (m n : ℕ) → list_all is_text_number (m ∷ n ∷ []) ≡ true → AreBack m n
numbers-back m n h =
    let first = and_parts (is_text_number m) (list_all is_text_number (n ∷ [])) h in
    record { one = number-back m first.0; two = number-back n (and_parts (is_text_number n) true first.1).0 }

command-back : (command : Command) → list_all is_text_number (command_numbers command) ≡ true → command_of (command_word command ∷ operands command) ≡ command
unfolding command_of number second first_word others
command-back Drop numbers = refl
command-back Sweep numbers = refl
command-back Eliminate numbers = refl
command-back (CollapseNet net) numbers = refl
command-back Kernel numbers = refl
command-back Cube numbers = refl
command-back (Simplify down up) numbers = let back = numbers-back down up numbers in λ i. Simplify (back.one i) (back.two i)
command-back Merge numbers = refl
command-back Default numbers = refl
command-back Determinize numbers = refl
command-back Encode numbers = refl
command-back Fill numbers = refl

why-back : (why : Why) (net : List ℕ) → list_all is_text_number (reason_numbers why) ≡ true → dropped_of (why_word why ∷ why_numbers why ++ net ∷ []) ≡ Dropped why net
unfolding dropped_of reason_of number second first_word others
why-back (Literals before after) net numbers = let back = numbers-back before after numbers in λ i. Dropped (Literals (back.one i) (back.two i)) net
why-back Lines net numbers = refl
why-back Nodes net numbers = refl
why-back Window net numbers = refl
why-back Kernels net numbers = refl
why-back Shared net numbers = refl
why-back Seen net numbers = refl
why-back Partial net numbers = refl
why-back Absent net numbers = refl
why-back Varied net numbers = refl
why-back Unread net numbers = refl
why-back Nets net numbers = refl
why-back Strict net numbers = refl

-- a note says itself
pub note-back : (note : Note) → list_all is_text_number (note_numbers note) ≡ true → note_of (note_words note) ≡ note
unfolding note_of number second first_word others
note-back (Begin command) numbers = ap Begin (command-back command numbers)
note-back (Dropped why net) numbers = why-back why net numbers
note-back (End literals) numbers = ap End (number-back literals (and_parts (is_text_number literals) true numbers).0)
note-back (Done before after) numbers = let back = numbers-back before after numbers in λ i. Done (back.one i) (back.two i)
