-- What a run notes, entry by entry, and its text: lines of words, each word parted from the next by
-- one space.
use Rattle.std.specs.Prelude.{◌≡◌, ℕ, Bool, true, false, if◌then◌else◌, ◌&&◌, nat_lt, Option, Some, None, List, [], ◌∷◌, ◌++◌, length, map, filter, codes, decimal}
use Rattle.std.specs.List.{flat_map, list_all, range_with_len}
use Rattle.mv_base.specs.Set.{has}
use Rattle.mv_base.specs.Names.{is_visible}
use Rattle.mv_base.specs.declared.number.Value.{Value}
use Rattle.mv_base.specs.declared.limits.TheConstants.{MAX_VALUES}
use Rattle.mv_lex.specs.Text.{line_text}
use Rattle.mv_entry.specs.declared.rule.BodyLit.{BodyLit}
use Rattle.mv_entry.specs.declared.rule.BodyLine.{BodyLine}
use Rattle.mv_entry.specs.declared.rule.Body.{Body}
use Rattle.mv_entry.specs.declared.rule.Code.{Code}
use Rattle.mv_entry.specs.declared.rule.Rule.{Rule}
use Rattle.mv_entry.specs.declared.rule.Rule.TheVariants.{Remove, Add, Divide, Wire, Collapse, Narrow, Fill, Merge as MergeValue, Encode as EncodeNet}
use Rattle.mv_entry.specs.declared.note.Command.{Command}
use Rattle.mv_entry.specs.declared.note.Command.TheVariants.{Drop, Sweep, Eliminate, Kernel, Cube, Simplify, Merge, Default, Determinize, Encode, Collapse as CollapseNet, Fill as FillAll}
use Rattle.mv_entry.specs.declared.note.Why.{Why}
use Rattle.mv_entry.specs.declared.note.Why.TheVariants.{Literals, Lines, Nodes, Window, Kernels, Shared, Seen, Partial, Absent, Varied, Unread, Nets, Strict}
use Rattle.mv_entry.specs.declared.note.Note.{Note}
use Rattle.mv_entry.specs.declared.note.Note.TheVariants.{Begin, Dropped, End, Done}

-- a rule that was applied, or a note
pub data Entry : Type 0 where
  Applied : (rule : Rule) → Entry
  Noted : (note : Note) → Entry

-- the rules among some entries, in order
abbrev pub rules_of : List Entry → List Rule
rules_of [] = []
rules_of (Applied rule ∷ es) = rule ∷ rules_of es
rules_of (Noted note ∷ es) = rules_of es

-- ---- sets

-- the values of a set below a number, ascending
unfoldable pub members_below : ℕ → ℕ → List ℕ
members_below set n = filter (λ v. has set v) (range_with_len 0 n)

-- the values of a set, ascending
abbrev pub members : ℕ → List ℕ
members set = members_below set MAX_VALUES

-- a value with a comma before it
abbrev pub with_comma : ℕ → List ℕ
with_comma v = 44 ∷ decimal v

-- one value stands for itself, and several stand in brackets, parted by commas. (No tidy body has a
-- set without values, and `()` reads as no set.)
abbrev pub values_word : List ℕ → List ℕ
values_word [] = codes "()"
values_word (v ∷ []) = decimal v
values_word (v ∷ w ∷ ws) = 40 ∷ decimal v ++ flat_map with_comma (w ∷ ws) ++ 41 ∷ []

-- the word of a set
unfoldable pub set_word : ℕ → List ℕ
set_word set = values_word (members set)

-- ---- rules

-- a literal: the net and its set
abbrev pub lit_words : BodyLit → List (List ℕ)
lit_words l = l.net ∷ set_word l.set ∷ []

-- a line of a body
abbrev pub line_words : BodyLine → List (List ℕ)
line_words l = codes "line" ∷ flat_map lit_words l.lits ++ codes "->" ∷ set_word l.out ∷ []

-- the line of a default, if there is one
abbrev pub default_lines : Option ℕ → List (List (List ℕ))
default_lines None = []
default_lines (Some set) = (codes "default" ∷ set_word set ∷ []) ∷ []

-- a body: its lines, its default, and the end
abbrev pub body_lines : Body → List (List (List ℕ))
body_lines b = map line_words b.lines ++ default_lines b.default ++ (codes "end" ∷ []) ∷ []

-- the value into which another goes, if there is one
abbrev pub into_words : Option Value → List (List ℕ)
into_words None = []
into_words (Some v) = decimal v.0 ∷ []

-- a bit as a digit
abbrev pub bit_byte : Bool → ℕ
bit_byte b = if b then 49 else 48

-- the word of a code
abbrev pub code_word : Code → List ℕ
code_word c = map bit_byte c.bits

-- the lines of a rule, each as its words
abbrev pub rule_lines : Rule → List (List (List ℕ))
rule_lines (Remove net) = (codes "remove" ∷ net ∷ []) ∷ []
rule_lines (Add net body) = (codes "add" ∷ net ∷ []) ∷ body_lines body
rule_lines (Divide net by body) = (codes "divide" ∷ net ∷ by ∷ []) ∷ body_lines body
rule_lines (Wire net) = (codes "wire" ∷ net ∷ []) ∷ []
rule_lines (Collapse net) = (codes "collapse" ∷ net ∷ []) ∷ []
rule_lines (Narrow net d u body) = (codes "narrow" ∷ net ∷ decimal d ∷ decimal u ∷ [])
    ∷ body_lines body
rule_lines (MergeValue net gone into) = (codes "merge" ∷ net ∷ decimal gone.0 ∷ into_words into)
    ∷ []
rule_lines (EncodeNet net names list) =
    (codes "encode" ∷ net ∷ decimal (length names) ∷ names ++ map code_word list) ∷ []
rule_lines (Fill net out) = (codes "fill" ∷ net ∷ set_word out ∷ []) ∷ []

-- ---- notes

-- the first word of a command
abbrev pub command_word : Command → List ℕ
command_word Drop = codes "drop"
command_word Sweep = codes "sweep"
command_word Eliminate = codes "eliminate"
command_word (CollapseNet net) = codes "collapse"
command_word Kernel = codes "kernel"
command_word Cube = codes "cube"
command_word (Simplify down up) = codes "simplify"
command_word Merge = codes "merge"
command_word Default = codes "default"
command_word Determinize = codes "determinize"
command_word Encode = codes "encode"
command_word FillAll = codes "fill"

-- the words of a command behind its first
abbrev pub operands : Command → List (List ℕ)
operands (CollapseNet net) = net ∷ []
operands (Simplify down up) = decimal down ∷ decimal up ∷ []
operands _ = []

-- why a step is dropped
abbrev pub why_word : Why → List ℕ
why_word (Literals before after) = codes "literals"
why_word Lines = codes "lines"
why_word Nodes = codes "nodes"
why_word Window = codes "window"
why_word Kernels = codes "kernels"
why_word Shared = codes "shared"
why_word Seen = codes "seen"
why_word Partial = codes "partial"
why_word Absent = codes "absent"
why_word Varied = codes "varied"
why_word Unread = codes "unread"
why_word Nets = codes "nets"
why_word Strict = codes "strict"

-- the literals before and after a step that is dropped for them
abbrev pub why_numbers : Why → List (List ℕ)
why_numbers (Literals before after) = decimal before ∷ decimal after ∷ []
why_numbers _ = []

-- the words of a note behind its `#`
abbrev pub note_words : Note → List (List ℕ)
note_words (Begin command) = codes "begin" ∷ command_word command ∷ operands command
note_words (Dropped why net) = codes "note" ∷ why_word why ∷ why_numbers why ++ net ∷ []
note_words (End literals) = codes "end" ∷ decimal literals ∷ []
note_words (Done before after) = codes "done" ∷ decimal before ∷ decimal after ∷ []

-- ---- entries

-- the lines of an entry, each as its words; a line that begins with `#` is a comment to who replays
-- the rules
abbrev pub entry_lines : Entry → List (List (List ℕ))
entry_lines (Applied rule) = rule_lines rule
entry_lines (Noted note) = (codes "#" ∷ note_words note) ∷ []

-- the text of an entry
unfoldable pub entry_text : Entry → List ℕ
entry_text e = flat_map line_text (entry_lines e)

-- the text of a list of entries
unfoldable pub print : List Entry → List ℕ
print entries = flat_map entry_text entries

-- ---- the names in an entry

-- the names of a body
abbrev pub body_names : Body → List (List ℕ)
body_names b = flat_map (λ l. map (λ (m : BodyLit). m.net) l.lits) b.lines

-- the names of a rule
abbrev pub rule_names : Rule → List (List ℕ)
rule_names (Remove net) = net ∷ []
rule_names (Add net body) = net ∷ body_names body
rule_names (Divide net by body) = net ∷ by ∷ body_names body
rule_names (Wire net) = net ∷ []
rule_names (Collapse net) = net ∷ []
rule_names (Narrow net d u body) = net ∷ body_names body
rule_names (MergeValue net gone into) = net ∷ []
rule_names (EncodeNet net names list) = net ∷ names
rule_names (Fill net out) = net ∷ []

-- the names of a command
abbrev pub command_names : Command → List (List ℕ)
command_names (CollapseNet net) = net ∷ []
command_names _ = []

-- the names of a note
abbrev pub note_names : Note → List (List ℕ)
note_names (Begin command) = command_names command
note_names (Dropped why net) = net ∷ []
note_names (End literals) = []
note_names (Done before after) = []

-- the names of an entry
abbrev pub entry_names : Entry → List (List ℕ)
entry_names (Applied rule) = rule_names rule
entry_names (Noted note) = note_names note

-- a name of at least one byte, all of which can be seen
abbrev pub is_visible_name : List ℕ → Bool
is_visible_name w = nat_lt 0 (length w) && list_all is_visible w

-- all names of the entry can be seen
pub record HasVisibleNames (entry : Entry) : Type 0 where
  pub each : list_all is_visible_name (entry_names entry) ≡ true
