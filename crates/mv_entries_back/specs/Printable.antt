-- Entries that are read back as they are printed.
use Rattle.std.specs.Prelude.{◌≡◌, ℕ, ◌^◌, Bool, true, ◌&&◌, nat_lt, nat_le, List, [], ◌∷◌, ◌++◌, length, map, All}
use Rattle.std.specs.List.{flat_map, list_all}
use Rattle.std.specs.Option.{option_to_list}
use Rattle.mv_base.specs.declared.limits.TheConstants.{MAX_WORD_BYTES}
use Rattle.mv_entry.specs.declared.rule.BodyLit.{BodyLit}
use Rattle.mv_entry.specs.declared.rule.BodyLine.{BodyLine}
use Rattle.mv_entry.specs.declared.rule.Body.{Body}
use Rattle.mv_entry.specs.declared.rule.Rule.{Rule}
use Rattle.mv_entry.specs.declared.rule.Rule.TheVariants.{Remove, Add, Divide, Wire, Collapse, Narrow, Merge, Encode, Fill}
use Rattle.mv_entry.specs.declared.note.Command.{Command}
use Rattle.mv_entry.specs.declared.note.Command.TheVariants.{Simplify}
use Rattle.mv_entry.specs.declared.note.Why.{Why}
use Rattle.mv_entry.specs.declared.note.Why.TheVariants.{Literals}
use Rattle.mv_entry.specs.declared.note.Note.{Note}
use Rattle.mv_entry.specs.declared.note.Note.TheVariants.{Begin, Dropped, End, Done}
use Rattle.mv_entry.specs.Entries.{Entry, Applied, Noted, entry_names}
use Rattle.mv_step.specs.Printed.{IsSayable, is_sayable_form}
use Rattle.mv_lines_back.specs.TextWords.{is_plain_word}

-- ---- the sets of an entry

-- the sets of a line
abbrev pub line_sets : BodyLine → List ℕ
line_sets l = map (λ (m : BodyLit). m.set) l.lits ++ l.out ∷ []

-- the sets of a body
abbrev pub body_sets : Body → List ℕ
body_sets b = flat_map line_sets b.lines ++ option_to_list b.default

-- the sets of a rule
abbrev pub rule_sets : Rule → List ℕ
rule_sets (Remove net) = []
rule_sets (Add net body) = body_sets body
rule_sets (Divide net by body) = body_sets body
rule_sets (Wire net) = []
rule_sets (Collapse net) = []
rule_sets (Narrow net d u body) = body_sets body
rule_sets (Merge net gone into) = []
rule_sets (Encode net names list) = []
rule_sets (Fill net out) = out ∷ []

-- the sets of an entry: a note has none
abbrev pub entry_sets : Entry → List ℕ
entry_sets (Applied rule) = rule_sets rule
entry_sets (Noted note) = []

-- ---- the numbers of an entry

-- the numbers of a command
abbrev pub command_numbers : Command → List ℕ
command_numbers (Simplify down up) = down ∷ up ∷ []
command_numbers _ = []

-- the numbers of a reason
abbrev pub reason_numbers : Why → List ℕ
reason_numbers (Literals before after) = before ∷ after ∷ []
reason_numbers _ = []

-- the numbers of a note
abbrev pub note_numbers : Note → List ℕ
note_numbers (Begin command) = command_numbers command
note_numbers (Dropped why net) = reason_numbers why
note_numbers (End literals) = literals ∷ []
note_numbers (Done before after) = before ∷ after ∷ []

-- the numbers of an entry that is a note
abbrev pub entry_numbers : Entry → List ℕ
entry_numbers (Applied rule) = []
entry_numbers (Noted note) = note_numbers note

-- ---- what can be printed

-- a name that can be a word of a text: a plain word within the limit
abbrev pub is_text_name : List ℕ → Bool
is_text_name w = is_plain_word w && nat_le (length w) MAX_WORD_BYTES

-- a number of at most 128 bits
abbrev pub is_text_number : ℕ → Bool
is_text_number n = nat_lt n (2 ^ 128)

-- the numbers and the codes of a rule can be words of a text
abbrev pub is_text_form : Entry → Bool
is_text_form (Applied rule) = is_sayable_form rule
is_text_form (Noted note) = true

-- an entry that is read back as it is printed
pub record Printable (entry : Entry) : Type 0 where
  -- its names can be words of a text
  pub names : list_all is_text_name (entry_names entry) ≡ true
  -- its sets have values, and none but those that a net may have
  pub sets : All IsSayable (entry_sets entry)
  -- the numbers of a note have at most 128 bits
  pub numbers : list_all is_text_number (entry_numbers entry) ≡ true
  -- and those of a rule have no more than 16, and its codes as many bits as it has names
  pub form : is_text_form entry ≡ true
